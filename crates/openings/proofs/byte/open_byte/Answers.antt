-- `open_byte` meets its contract. Assumes nothing.
use mathlib.Core.Path.{sym, ◌∙◌}
use Rattle.weights.specs.Rows.{byte_scheme}
use Rattle.openings.proofs.Settled.{Readable, read}
use Rattle.openings.proofs.Sums.{unreadable}
use Rattle.openings.proofs.Weighted.{whole_read}
use Rattle.openings.proofs.byte.open_byte.Goals as goal
use Rattle.openings.proofs.byte.open_byte.Goals.{Else-not-readable}

pub returns-then-not-readable : goal.returns-then-not-readable
returns-then-not-readable c = sym (unreadable byte_scheme _ _ (sym c.readable.ensures ∙ c.if-not-readable.true))

-- the words were found readable
passed : (c : Else-not-readable) → Readable 256 c.args.n c.args.words.now
passed c = read 256 _ _ (sym c.readable.ensures ∙ c.if-not-readable.false)

pub sums-requires : goal.sums-requires
sums-requires c =
    let p = passed (goal.at.sums-requires c).Else-not-readable in
    (p.least, p.most, p.long)

pub returns : goal.returns
returns c =
    c.secret_of.ensures ∙ whole_read _ _ (passed (goal.at.returns c).Else-not-readable) _ c.sums.ensures.0
