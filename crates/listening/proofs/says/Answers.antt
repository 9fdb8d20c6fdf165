-- `says` meets its contract: a level's words, or a single one. Assumes nothing.
use mathlib.Core.Path.{◌≡◌, sym, ap, ap₂, ◌∙◌}
use mathlib.Core.Bool.{true, false, and-true as and-true-is}
use mathlib.Core.List.{List, [], ◌∷◌}
use Prim.Native.Nat.{ℕ, suc, zero, ◌-◌, ◌*◌, ◌<◌}
use native.Mathlib.Omega.{arith}
use native.Mathlib.Nat.{mul-le-mul_right}
use lib.Dec.{eqb}
use lib.ListN.{length, take, drop, get_or}
use borrow.Author.Rules.{rules}
use Rattle.ranges.specs.Lists.{same}
use Rattle.ways.specs.Way.{width, tree}
use Rattle.record.proofs.Soundness.{sound_facts}
use Rattle.level.specs.Level.{Ready}
use Rattle.message.specs.Message.{in_level, single}
use Rattle.message.proofs.Messages.{level_wide, level_ready, level_message, single_wide, single_message}
use Rattle.listening.proofs.says.Goals as goal
use Rattle.listening.proofs.says.Goals.{Else-in_level, Then-in_level}

-- ---- a level

module _ (c : Then-in_level) where
  in_it : in_level c.args.q ≡ true
  in_it = sym c.in_level.ensures ∙ c.if-in_level.true

  ready : Ready c.args.q.round c.args.q.pairs.words c.args.sheet.now
  ready = level_ready c.args.q c.args.sheet.now (sound_facts c.args.q c.requires.0) in_it c.requires.3 c.requires.4

pub slice_bounds-level-end : goal.slice_bounds-level-end
slice_bounds-level-end c = search (rules, (ready (goal.at.slice_bounds-level-end c).Then-in_level).kept_long)

pub invariant_of-level : goal.invariant_of-level
invariant_of-level c = record { ready = ready (goal.at.invariant_of-level c).Then-in_level }

pub says_level-requires : goal.says_level-requires
says_level-requires c =
    let q = c.args.q in
    let l = (sound_facts c.args.q c.requires.0).listed in
    let e = ap (λ (w : ℕ). q.n * w) (level_wide q (in_it (goal.at.says_level-requires c).Then-in_level)) in
    (l.own_least, omega (arith, l.own_most, l.parties_most), omega (arith, c.requires.5, e, mul-le-mul_right (width tree q.round) l.own_most))

pub returns-then-in_level : goal.returns-then-in_level
returns-then-in_level c =
    let a = c.args in
    let e = level_wide a.q (in_it (goal.at.returns-then-in_level c).Then-in_level) in
    c.says_level.ensures
    ∙ ap₂ same (ap (λ (w : ℕ). take w (drop ((a.q.own - 1) * w) a.messages.now)) (sym e))
    (sym (level_message a.q a.totals.now a.sheet.now (in_it (goal.at.returns-then-in_level c).Then-in_level)))

-- ---- a single word

-- the word at a place, as a part of the list
one_at : (i : ℕ) (xs : List ℕ) (y : ℕ) → i < length xs → same (take 1 (drop i xs)) (y ∷ []) ≡ eqb (get_or xs i 0) y
unfolding same
one_at i [] y h = absurd (omega (arith, h))
one_at zero (x ∷ xs) y h = and-true-is (eqb x y)
one_at (suc i) (x ∷ xs) y h = one_at i xs y (omega (arith, h))

module _ (c : Else-in_level) where
  not_in : in_level c.args.q ≡ false
  not_in = sym c.in_level.ensures ∙ c.if-in_level.false

  there : c.args.q.own - 1 < length c.args.messages.now
  there =
      let q = c.args.q in
      let l = (sound_facts c.args.q c.requires.0).listed in
      let e = ap (λ (w : ℕ). q.n * w) (single_wide q not_in) in
      omega (arith, c.requires.5, e, l.own_least, l.own_most)

pub overflow_sub-own : goal.overflow_sub-own
overflow_sub-own c = (sound_facts c.args.q c.requires.0).listed.own_least

pub offset_bounds-messages-own : goal.offset_bounds-messages-own
offset_bounds-messages-own c =
    let l = (sound_facts c.args.q c.requires.0).listed in omega (arith, l.own_most, l.parties_most)

pub bounds-messages-own : goal.bounds-messages-own
bounds-messages-own c = there (goal.at.bounds-messages-own c).Else-in_level

pub single-requires : goal.single-requires
single-requires c = (c.requires.0, c.requires.1, c.requires.2, c.requires.3, c.requires.4)

pub returns : goal.returns
returns c =
    let a = c.args in
    let at = get_or a.messages.now (a.q.own - 1) 0 in
    let once : a.q.own - 1 ≡ (a.q.own - 1) * 1 = omega arith in
    ap (eqb at) c.single.ensures
    ∙ sym (one_at (a.q.own - 1) a.messages.now (single a.q a.totals.now a.sheet.now) (there (goal.at.returns c).Else-in_level))
    ∙ ap₂ same
    (ap (λ (i : ℕ). take 1 (drop i a.messages.now)) once
    ∙ ap (λ (w : ℕ). take w (drop ((a.q.own - 1) * w) a.messages.now)) (sym (single_wide a.q (not_in (goal.at.returns c).Else-in_level))))
    (sym (single_message a.q a.totals.now a.sheet.now (not_in (goal.at.returns c).Else-in_level)))
