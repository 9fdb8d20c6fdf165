-- `judge_bids` meets its contract: the count of bids, the bids, and that no line is left. Assumes nothing.
use Rattle.std.specs.Prelude.{Some, Result, Ok, Err}
use Rattle.std.proofs.lemmas.Result.{err_from_is_err_and}
use mathlib.Core.Path.{◌≡◌, sym, ap, ◌∙◌}
use mathlib.Core.List.{List}
use Prim.Native.Nat.{ℕ, ◌+◌, ◌*◌, ◌≤◌}
use native.Mathlib.Omega.{arith}
use lib.ListN.{length, drop, length-drop}
use lib.Seq.{length-take-le, drop-drop}
use Rattle.lines.specs.Lines.{first_line, line_length, rest, bytes_of, past}
use Rattle.sections.specs.declared.table.Fault.{Fault}
use Rattle.plan.specs.declared.judging.Shape.{Shape}
use Rattle.plan.specs.Judged.{as_judged, seeds_of, prices_of}
use Rattle.sections.specs.Sections.{bids_fault, unless}
use Rattle.lines.proofs.Again.{line_more}
use Rattle.sections.proofs.Bids.{length_tables, sound, faulty}
use Rattle.plan.proofs.Answers.{m_misshapen, m_range, bids_bad, one_too_many, all_read}
use Rattle.plan.proofs.judging.judge_bids.Goals as goal
use Rattle.plan.proofs.judging.judge_bids.Goals.{After-read_bids, After-read_line-first, Else-bids-gt-MOST_BIDS, In-Some, In_ok-next}

abbrev lent : After-read_line-first → List ℕ
lent c = c.args.input.now

abbrev left : After-read_line-first → List ℕ
left c = drop c.args.at (lent c)

first : (c : After-read_line-first) → c.read_line-first.result.line ≡ first_line (left c)
first c = c.read_line-first.ensures.0

second : (c : After-read_line-first) → c.read_line-first.result.next ≡ c.args.at + line_length (left c)
second c = c.read_line-first.ensures.1

moved : (bytes : List ℕ) (at next : ℕ) → next ≡ at + line_length (drop at bytes) → drop next bytes ≡ rest (drop at bytes)
moved bytes at next e = ap (λ (j : ℕ). drop j bytes) e ∙ sym (drop-drop (line_length (drop at bytes)) at bytes)

-- the bids begin after n + k + 3 lines
counted : (n k : ℕ) → n + 2 + k + 1 ≡ n + k + 3
counted n k = omega arith

at_bids : (c : After-read_line-first) → c.read_line-first.result.next ≡ bytes_of (c.args.n + c.args.k + 3) (lent c)
at_bids c =
    let a = c.args in
    second c ∙ line_more (lent c) a.at (a.n + 2 + a.k) c.requires.3 ∙ ap (λ (j : ℕ). bytes_of j (lent c)) (counted a.n a.k)

-- what the answers are about
abbrev seeds : After-read_line-first → List ℕ
seeds c = seeds_of c.args.n (lent c)

abbrev listed : After-read_line-first → List ℕ
listed c = prices_of c.args.n c.args.k (lent c)

abbrev m_of : In-Some → ℕ
m_of c = c.in-Some.bids

is_m : (c : In-Some) → first_line (drop c.args.at c.args.input.now) ≡ Some (m_of c)
is_m c = sym (c.read_line-first.ensures.0) ∙ c.in-Some.is

few : (c : Else-bids-gt-MOST_BIDS) → c.args.k ≤ 256
few c = c.requires.1

room : (k : ℕ) → k ≤ 256 → 2 * k ≤ 512
room k h = omega arith

-- what the bids were found to be
found : (c : After-read_bids) → c.read_bids.result
    ≡ unless (bids_fault c.args.k c.in-Some.bids (c.args.n + c.args.k + 4) (rest (drop c.args.at c.args.input.now)))
    (c.read_line-first.result.next + bytes_of (c.in-Some.bids * (2 * c.args.k)) (drop c.read_line-first.result.next c.args.input.now))
found c =
    c.read_bids.ensures
    ∙ ap
    (λ (bs : List ℕ). unless (bids_fault c.args.k c.in-Some.bids (c.args.n + c.args.k + 4) bs)
    (c.read_line-first.result.next + bytes_of (c.in-Some.bids * (2 * c.args.k)) (drop c.read_line-first.result.next c.args.input.now)))
    (moved _ _ _ c.read_line-first.ensures.1)

-- what is left after bids without a fault
over : (c : In_ok-next) → c.read_line-first.result.next + bytes_of (c.in-Some.bids * (2 * c.args.k)) (drop c.read_line-first.result.next c.args.input.now) ≡ c.in_ok-next.next
    → drop c.in_ok-next.next c.args.input.now ≡ past (c.in-Some.bids * (2 * c.args.k)) (rest (drop c.args.at c.args.input.now))
over c e =
    let m = c.in-Some.bids * (2 * c.args.k) in
    let first = c.read_line-first.result.next in
    ap (λ (j : ℕ). drop j c.args.input.now) (sym e)
    ∙ sym (drop-drop (bytes_of m (drop first c.args.input.now)) first c.args.input.now)
    ∙ ap (past m) (moved _ _ _ c.read_line-first.ensures.1)

good_shape : {n k seed seed' bids bids' prices prices' from from' : ℕ} → seed ≡ seed' → prices ≡ prices' → from ≡ from' → bids ≡ bids'
    → ◌≡◌ {A = Result Shape Fault}
    (Ok (record { n = n; seed = seed; k = k; bids = bids; prices_at = prices; bids_at = from }))
    (Ok (record { n = n; seed = seed'; k = k; bids = bids'; prices_at = prices'; bids_at = from' }))
good_shape e f g h = cc

pub returns-in_default : goal.returns-in_default
unfolding as_judged
returns-in_default c =
    let a = c.args in
    ap Err c.new.ensures ∙ sym (ap (as_judged (lent (goal.at.returns-in_default c).After-read_line-first)) (m_misshapen a.n (seeds (goal.at.returns-in_default c).After-read_line-first) a.k (listed (goal.at.returns-in_default c).After-read_line-first) (left (goal.at.returns-in_default c).After-read_line-first) (sym (first (goal.at.returns-in_default c).After-read_line-first) ∙ c.in_default.is)))

pub returns-then-bids-gt-MOST_BIDS : goal.returns-then-bids-gt-MOST_BIDS
unfolding as_judged
returns-then-bids-gt-MOST_BIDS c =
    let a = c.args in
    ap Err c.new-then-bids-gt-MOST_BIDS.ensures ∙ sym (ap (as_judged (lent (goal.at.returns-then-bids-gt-MOST_BIDS c).After-read_line-first)) (m_range a.n (seeds (goal.at.returns-then-bids-gt-MOST_BIDS c).After-read_line-first) a.k (listed (goal.at.returns-then-bids-gt-MOST_BIDS c).After-read_line-first) (left (goal.at.returns-then-bids-gt-MOST_BIDS c).After-read_line-first) (m_of (goal.at.returns-then-bids-gt-MOST_BIDS c).In-Some) (is_m (goal.at.returns-then-bids-gt-MOST_BIDS c).In-Some) c.if-bids-gt-MOST_BIDS.true))

pub slice_bounds-read_bids-end : goal.slice_bounds-read_bids-end
slice_bounds-read_bids-end c = sym (length-take-le _ _ (room _ (few (goal.at.slice_bounds-read_bids-end c).Else-bids-gt-MOST_BIDS)))

pub read_bids-requires : goal.read_bids-requires
read_bids-requires c =
    (few (goal.at.read_bids-requires c).Else-bids-gt-MOST_BIDS, c.if-bids-gt-MOST_BIDS.false, omega (arith, c.requires), length-take-le _ _ (room _ (few (goal.at.read_bids-requires c).Else-bids-gt-MOST_BIDS)))

pub returns-in_err-next : goal.returns-in_err-next
unfolding as_judged
returns-in_err-next c =
    let a = c.args in
    let at = goal.at.returns-in_err-next c in
    let s = at.After-read_line-first in
    let p = err_from_is_err_and c.from_residual.result c.from_residual.ensures.1 in
    let bad = faulty _ _ _ (sym (found at.After-read_bids) ∙ c.in_err-next.was) in
    rw (p.1, p.2)
    (sym
    (ap (as_judged (lent s)) (bids_bad a.n (seeds s) a.k (listed s) (left s) (m_of at.In-Some) (is_m at.In-Some) c.if-bids-gt-MOST_BIDS.false _ bad)))

pub returns-then-next-input : goal.returns-then-next-input
unfolding as_judged
returns-then-next-input c =
    let a = c.args in
    let at = goal.at.returns-then-next-input c in
    let s = at.After-read_line-first in
    let good = sound _ _ _ (sym (found at.After-read_bids) ∙ c.in_ok-next.was) in
    let e = ap length (over at.In_ok-next good.1) in
    ap Err c.new-then-next-input.ensures
    ∙ sym
    (ap (as_judged (lent s))
    (one_too_many a.n (seeds s) a.k (listed s) (left s) (m_of at.In-Some) (is_m at.In-Some) c.if-bids-gt-MOST_BIDS.false good.0
    (omega (arith, e, length-drop c.in_ok-next.next (lent s), c.if-next-input.true))))

pub returns : goal.returns
unfolding as_judged
returns c =
    let a = c.args in
    let at = goal.at.returns c in
    let s = at.After-read_line-first in
    let good = sound _ _ _ (sym (found at.After-read_bids) ∙ c.in_ok-next.was) in
    let e = ap length (over at.In_ok-next good.1) in
    good_shape c.requires.4 c.requires.2 (at_bids s) (sym (length_tables a.k (m_of at.In-Some) (rest (left s))))
    ∙ sym
    (ap (as_judged (lent s))
    (all_read a.n (seeds s) a.k (listed s) (left s) (m_of at.In-Some) (is_m at.In-Some) c.if-bids-gt-MOST_BIDS.false good.0
    (omega (arith, e, length-drop c.in_ok-next.next (lent s), c.if-next-input.false))))
