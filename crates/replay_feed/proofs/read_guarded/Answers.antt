-- `replay_feed::read_guarded` reads, and then guards. Assumes nothing.
use mathlib.Core.Path.{ap, ◌∙◌}
use Rattle.rules.specs.Guard.{guarded, unusable}
use Rattle.replay_feed.proofs.read_guarded.Goals as goal

pub returns : goal.returns
returns c =
    let w = c.read_words.ensures in
    record {
      words = c.replace_unusable.ensures.words ∙ ap guarded w;
      count = c.replace_unusable.ensures.count ∙ ap unusable w;
    }
