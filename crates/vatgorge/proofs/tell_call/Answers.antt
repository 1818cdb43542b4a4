-- `vatgorge::tell_call`: by the answer. Assumes nothing.
use mathlib.Core.Path.{sym, ap}
use Rattle.vatgorge.proofs.tell_call.Goals as goal
