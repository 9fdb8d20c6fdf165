-- `of_words` lends a part that is there. Assumes nothing.
use Rattle.std.proofs.Common.{sym, length-take-le, rules}
use Rattle.worked_shares.proofs.of_dealer.of_words.Goals as goal

pub slice_bounds-call-end : goal.slice_bounds-call-end
slice_bounds-call-end c = sym (length-take-le _ _ (search rules))
