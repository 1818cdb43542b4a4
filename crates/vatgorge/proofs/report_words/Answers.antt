-- `vatgorge::report_words`: each word by its field. Assumes nothing.
use Rattle.vatgorge.proofs.report_words.Goals as goal

pub returns : goal.returns
returns c =
    rw (
      c.to_bits64-4.ensures,
      c.to_bits64-3.ensures,
      c.to_bits64-2.ensures,
      c.to_bits64.ensures,
      c.flag_word.ensures,
    )
