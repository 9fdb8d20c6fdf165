-- `settle` meets its contract. Assumes nothing.
use mathlib.Core.Path.{◌≡◌, sym, ap, ◌∙◌}
use Prim.Native.Nat.{ℕ}
use Rattle.refusal.specs.Refusal.{number_of}
use Rattle.listing.specs.Lines.{refused_line}
use Rattle.listing.proofs.Writing.{wrote_same}
use Rattle.settling.proofs.Settled.{settled_faulty}
use borrow.Author.Rules.{rules}
use Rattle.settling.proofs.settle.Goals as goal

pub settle_good-requires : goal.settle_good-requires
settle_good-requires c = (sym c.judge.ensures ∙ c.in-Ok.is, search rules)

pub returns-in-Err : goal.returns-in-Err
returns-in-Err c =
    let number : c.from.result ≡ number_of c.in-Err.fault.refusal = search rules in
    wrote_same (ap (λ (n : ℕ). refused_line n c.in-Err.fault.line) number ∙ sym (settled_faulty c.args.input.now c.in-Err.fault (sym c.judge.ensures ∙ c.in-Err.is)))
    (c.write_refused.ensures.0 (search rules))
