-- `read_bid` meets its contract: the table that was read is judged. Assumes nothing.
use Rattle.std.specs.Prelude.{Ok, Err}
use Rattle.std.proofs.lemmas.Result.{err_from_is_err_and}
use mathlib.Core.Path.{◌≡◌, sym, ap, ◌∙◌}
use mathlib.Core.List.{List}
use Prim.Native.Nat.{ℕ, ◌+◌, ◌*◌, ◌<◌}
use native.Mathlib.Omega.{arith}
use lib.ListN.{length, drop}
use Rattle.refusal.specs.declared.Refusal.TheVariants.{Malformed}
use Rattle.lines.specs.Lines.{numbers, bytes_of, formed}
use Rattle.sections.specs.Sections.{at_line, table_fault, unless}
use Rattle.lines.proofs.Again.{formed_most, length_numbers}
use Rattle.sections.proofs.Bids.{torn, whole, sound, faulty}
use Rattle.sections.proofs.reading.read_bid.Goals as goal
use Rattle.sections.proofs.reading.read_bid.Goals.{After-read_numbers-read}

abbrev bytes : After-read_numbers-read → List ℕ
bytes c = drop c.args.at c.args.input.now

-- what was read, by the number of prices
snd : (c : After-read_numbers-read) → c.read_numbers-read.result.formed ≡ formed (2 * c.args.k) (bytes c)
snd c = c.read_numbers-read.ensures.2 ∙ ap (λ (j : ℕ). formed j (bytes c)) c.requires.2

nxt : (c : After-read_numbers-read) → c.read_numbers-read.result.next ≡ c.args.at + bytes_of (2 * c.args.k) (bytes c)
nxt c = c.read_numbers-read.ensures.1 ∙ ap (λ (j : ℕ). c.args.at + bytes_of j (bytes c)) c.requires.2

tbl : (c : After-read_numbers-read) → c.read_numbers-read.new.into ≡ numbers (2 * c.args.k) (bytes c)
tbl c = c.read_numbers-read.ensures.0 ∙ ap (λ (j : ℕ). numbers j (bytes c)) c.requires.2

len : (c : After-read_numbers-read) → length c.read_numbers-read.new.into ≡ 2 * c.args.k
len c = ap length (tbl c) ∙ length_numbers (2 * c.args.k) (bytes c)

abbrev Next : After-read_numbers-read → ℕ
Next c = c.args.at + bytes_of (2 * c.args.k) (bytes c)

pub overflow_add-line : goal.overflow_add-line
overflow_add-line c =
    let s = (goal.at.overflow_add-line c).After-read_numbers-read in
    omega (arith, snd s, formed_most (2 * c.args.k) (bytes s), c.requires)

pub returns-then-read-table : goal.returns-then-read-table
returns-then-read-table c =
    let s = (goal.at.returns-then-read-table c).After-read_numbers-read in
    let h : formed (2 * c.args.k) (bytes s) < 2 * c.args.k = omega (arith, c.if-read-table.true, snd s, len s, formed_most (2 * c.args.k) (bytes s)) in
    ap Err c.new.ensures ∙ ap (λ (j : ℕ). Err (at_line Malformed (c.args.line + j))) (snd s)
    ∙ sym (ap (λ f. unless f (Next s)) (torn c.args.k c.args.line (bytes s) h))

pub returns-in_err-table_fault : goal.returns-in_err-table_fault
returns-in_err-table_fault c =
    let s = (goal.at.returns-in_err-table_fault c).After-read_numbers-read in
    let h : formed (2 * c.args.k) (bytes s) ≡ 2 * c.args.k = omega (arith, c.if-read-table.false, snd s, len s) in
    let p = err_from_is_err_and c.from_residual.result c.from_residual.ensures.1 in
    let e = faulty (table_fault c.args.k c.args.line c.read_numbers-read.new.into) tt _ (sym c.table_fault.ensures ∙ c.in_err-table_fault.was) in
    rw (p.1, p.2)
    (sym (ap (λ f. unless f (Next s)) (whole c.args.k c.args.line (bytes s) h ∙ ap (table_fault c.args.k c.args.line) (sym (tbl s)) ∙ e)))

pub returns : goal.returns
returns c =
    let s = (goal.at.returns c).After-read_numbers-read in
    let h : formed (2 * c.args.k) (bytes s) ≡ 2 * c.args.k = omega (arith, c.if-read-table.false, snd s, len s) in
    let e = sound (table_fault c.args.k c.args.line c.read_numbers-read.new.into) tt _ (sym c.table_fault.ensures ∙ c.in_ok-table_fault.was) in
    ap Ok (nxt s)
    ∙ sym (ap (λ f. unless f (Next s)) (whole c.args.k c.args.line (bytes s) h ∙ ap (table_fault c.args.k c.args.line) (sym (tbl s)) ∙ e.0))
