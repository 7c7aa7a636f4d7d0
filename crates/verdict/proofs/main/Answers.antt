-- The text that was printed lies within its buffer.
use Rattle.std.proofs.Common.{sym, length-take-le}
use Rattle.verdict_text.specs.VerdictLaws.{text_inside}
use Rattle.verdict.proofs.main.Goals as goal

pub slice_bounds-text-end : goal.slice_bounds-text-end
slice_bounds-text-end c = text_inside _ _ _ _ _ c.verdict_text-outcome.ensures c.in-Ok.is

pub slice_bounds-write_all-end : goal.slice_bounds-write_all-end
slice_bounds-write_all-end c = sym (length-take-le _ _ (text_inside _ _ _ _ _ c.verdict_text-outcome.ensures c.in-Ok.is))
