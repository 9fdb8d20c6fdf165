-- `judge` meets its contract: each return answers one test of the list. Assumes nothing.
use mathlib.Core.Path.{◌≡◌, sym, ap, ap₂, ◌∙◌}
use mathlib.Core.Bool.{Bool, false, not, ◌&&◌}
use mathlib.Core.List.{List}
use Prim.Native.Nat.{ℕ, ◌+◌, ◌-◌, ◌^◌, ◌≤◌}
use native.Mathlib.Omega.{arith}
use lib.Dec.{ltb}
use lib.ListN.{length, drop, get_or, length-drop}
use lib.Seq.{take_all}
use borrow.Author.Tests.{not-false, eqb-true}
use Rattle.fields.specs.Amount.{p}
use Rattle.ranges.specs.Lists.{every}
use Rattle.sharing.specs.Scheme.{threshold}
use Rattle.ranges.specs.Sizes.{party, long}
use Rattle.ranges.proofs.Loops.{and_left}
use Rattle.ways.specs.Way.{is_way, way_of, sheet_size, drawn_size}
use Rattle.dealer.specs.Deal.{deal_judgement}
use Rattle.refusal.proofs.Judging.{refuses, passes, all_passed}
use Rattle.ranges.proofs.Ranges.{a_party}
use Rattle.dealer.proofs.judge.Goals as goal
use Rattle.dealer.proofs.judge.Goals.{After-all_below, After-sheet_words, Else-not-is_party-is_way, Else-not-words-t}

-- who it is for, and the way
who : (n own last : ℕ) (one other : Bool) → one ≡ party n own → other ≡ is_way last
    → not (party n own && is_way last) ≡ not (one && other)
who n own last one other e f = ap not (ap₂ ◌&&◌ (sym e) (sym f))

range : (c : Else-not-is_party-is_way) → not (party c.args.n c.args.own && is_way c.args.last) ≡ false
range c =
    who c.args.n c.args.own c.args.last c.is_party.result c.is_way.result c.is_party.ensures c.is_way.ensures
    ∙ c.if-not-is_party-is_way.false-raw

few : (c : Else-not-is_party-is_way) → c.args.n ≤ 9
few c =
    let a = c.args in
    (a_party a.n a.own (and_left (party a.n a.own) (is_way a.last) (not-false (party a.n a.own && is_way a.last) (range c)))).parties_most

missized : (last t : ℕ) → List ℕ → List ℕ → List ℕ → Bool
missized last t words drawn sheet =
    not (long (1 + t) words && long (drawn_size (way_of last) t) drawn && long (sheet_size (way_of last)) sheet)

sizes : (last m t d s : ℕ) (words drawn sheet : List ℕ) → m ≡ t → d ≡ drawn_size (way_of last) m → s ≡ sheet_size (way_of last)
    → missized last t words drawn sheet ≡ not (long (1 + m) words && long d drawn && long s sheet)
unfolding missized
sizes last m t d s words drawn sheet e f g = cc

sized : (c : After-sheet_words) → let a = c.args in
    missized a.last (threshold a.n) a.words.now a.bytes.now a.sheet.now
    ≡ not (long (1 + c.threshold-t.result) a.words.now && long c.drawn_bytes.result a.bytes.now
    && long c.sheet_words.result a.sheet.now)
sized c =
    let a = c.args in
    sizes a.last c.threshold-t.result (threshold a.n) c.drawn_bytes.result c.sheet_words.result
    a.words.now a.bytes.now a.sheet.now c.threshold-t.ensures c.drawn_bytes.ensures c.sheet_words.ensures

-- there is a mask
one : (c : Else-not-words-t) → 1 ≤ length c.args.words.now
one c =
    let a = c.args in
    let t = c.threshold-t.result in
    let w = long (1 + t) a.words.now in
    let b = long c.drawn_bytes.result a.bytes.now in
    let s = long c.sheet_words.result a.sheet.now in
    omega (arith, eqb-true (length a.words.now) (1 + t) (and_left w b (and_left (w && b) s (not-false (w && b && s) c.if-not-words-t.false-raw))))

drawn : (c : After-all_below) → ltb (get_or c.args.words.now 0 0) (2 ^ 58) && c.all_below.result
    ≡ ltb (get_or c.args.words.now 0 0) (2 ^ 58) && every (λ x. ltb x p) (drop 1 c.args.words.now)
drawn c =
    let words = c.args.words.now in
    ap (λ (b : Bool). ltb (get_or words 0 0) (2 ^ 58) && b)
    (c.all_below.ensures ∙ ap (every (λ x. ltb x p)) (take_all (length words - 1) (drop 1 words) (omega (arith, length-drop 1 words))))

pub returns-then-not-is_party-is_way : goal.returns-then-not-is_party-is_way
unfolding deal_judgement
returns-then-not-is_party-is_way c =
    sym (refuses _ _ _ (who _ _ _ _ _ c.is_party.ensures c.is_way.ensures ∙ c.if-not-is_party-is_way.true-raw))

pub drawn_bytes-requires : goal.drawn_bytes-requires
drawn_bytes-requires c = omega (arith, few (goal.at.drawn_bytes-requires c).Else-not-is_party-is_way, c.threshold-t.ensures)

pub returns-then-not-words-t : goal.returns-then-not-words-t
unfolding deal_judgement missized
returns-then-not-words-t c =
    sym (passes _ _ _ (range (goal.at.returns-then-not-words-t c).Else-not-is_party-is_way) ∙ refuses _ _ _ (sized (goal.at.returns-then-not-words-t c).After-sheet_words ∙ c.if-not-words-t.true-raw))

pub bounds-words-0 : goal.bounds-words-0
bounds-words-0 c = one (goal.at.bounds-words-0 c).Else-not-words-t

pub slice_bounds-all_below-count : goal.slice_bounds-all_below-count
slice_bounds-all_below-count c = one (goal.at.slice_bounds-all_below-count c).Else-not-words-t

pub slice_bounds-all_below-start : goal.slice_bounds-all_below-start
slice_bounds-all_below-start c = one (goal.at.slice_bounds-all_below-start c).Else-not-words-t

pub returns-then-not-mask-all_below : goal.returns-then-not-mask-all_below
unfolding deal_judgement missized
returns-then-not-mask-all_below c =
    sym (passes _ _ _ (range (goal.at.returns-then-not-mask-all_below c).Else-not-is_party-is_way) ∙ passes _ _ _ (sized (goal.at.returns-then-not-mask-all_below c).After-sheet_words ∙ c.if-not-words-t.false-raw)
    ∙ refuses _ _ _ (ap not (sym (drawn (goal.at.returns-then-not-mask-all_below c).After-all_below)) ∙ c.if-not-mask-all_below.true-raw))

pub returns : goal.returns
unfolding deal_judgement missized
returns c =
    sym (passes _ _ _ (range (goal.at.returns c).Else-not-is_party-is_way) ∙ passes _ _ _ (sized (goal.at.returns c).After-sheet_words ∙ c.if-not-words-t.false-raw)
    ∙ passes _ _ _ (ap not (sym (drawn (goal.at.returns c).After-all_below)) ∙ c.if-not-mask-all_below.false-raw) ∙ all_passed)
