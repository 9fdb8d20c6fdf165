-- `top` meets its contract. Assumes nothing.
use mathlib.Core.Path.{◌≡◌, sym, ap, ap₂, ◌∙◌}
use mathlib.Core.List.{List}
use Prim.Native.Nat.{ℕ, ◌+◌, ◌*◌}
use native.Mathlib.Omega.{arith}
use lib.Dec.{lit<}
use lib.ListN.{get_or}
use Rattle.fields.specs.Bits.{bit}
use Rattle.fields.specs.Byte.{bytes}
use Rattle.comparison.specs.Rounds.{differing}
use Rattle.comparison.specs.Pairs.{Pair}
use Rattle.comparison.proofs.Levels.{public_share}
use Rattle.level.specs.Level.{level_pairs, no_pair}
use Rattle.level.proofs.Laws.{Wide, wide, kept_byte, sheet_byte, later_pair, first_pair, next_pair}
use Rattle.level.proofs.Level.top.Goals as goal
use Rattle.level.proofs.Level.top.Goals.{Start}

W : (s : Start) → Wide s.args.self.now.round
W s = wide s.args.self.now.round s.args.self.now.ready.least s.args.self.now.ready.most

abbrev ps : Start → List (Pair ℕ)
ps s = level_pairs s.args.self.now.round s.args.self.now.sum s.args.self.now.kept.now s.args.self.now.sheet.now

pub overflow_mul-i : goal.overflow_mul-i
overflow_mul-i c =
    omega (arith, (W (goal.at.overflow_mul-i c).Start).twice, (W (goal.at.overflow_mul-i c).Start).most, c.requires)

pub byte_at-requires : goal.byte_at-requires
byte_at-requires c = (
  omega (arith, (W (goal.at.byte_at-requires c).Start).twice, (W (goal.at.byte_at-requires c).Start).later c.if-self-ne2.true, c.requires, c.args.self.now.ready.kept_long),
  kept_byte c.args.self.now.round c.args.self.now.sum c.args.self.now.kept.now c.args.self.now.sheet.now c.args.self.now.ready (2 * c.args.i)
      (omega (arith, (W (goal.at.byte_at-requires c).Start).twice, (W (goal.at.byte_at-requires c).Start).later c.if-self-ne2.true, c.requires)),
)

pub returns-then-self-ne2 : goal.returns-then-self-ne2
returns-then-self-ne2 c =
    c.byte_at.ensures
    ∙ sym (ap (λ (z : Pair ℕ). z.top) (later_pair c.args.self.now.round c.args.self.now.sum c.args.self.now.kept.now c.args.self.now.sheet.now c.args.self.now.ready c.if-self-ne2.true c.args.i c.requires))

pub returns-then-i-eq0 : goal.returns-then-i-eq0
returns-then-i-eq0 c =
    sym
    (ap (λ (k : ℕ). (get_or (ps (goal.at.returns-then-i-eq0 c).Start) k no_pair).top) c.if-i-eq0.true
    ∙ ap (λ (z : Pair ℕ). z.top) (first_pair c.args.self.now.round c.args.self.now.sum c.args.self.now.kept.now c.args.self.now.sheet.now c.args.self.now.ready c.if-self-ne2.false)
    ∙ public_share 0 (get_or c.args.self.now.sheet.now 1 0) (lit< tt) (sheet_byte c.args.self.now.round c.args.self.now.sum c.args.self.now.kept.now c.args.self.now.sheet.now c.args.self.now.ready 1 (lit< tt) (lit< tt)))

pub overflow_add-i : goal.overflow_add-i
overflow_add-i c =
    omega (arith, (W (goal.at.overflow_add-i c).Start).twice, (W (goal.at.overflow_add-i c).Start).most, c.requires)

pub overflow_add-i-2 : goal.overflow_add-i-2
overflow_add-i-2 c =
    omega (arith, (W (goal.at.overflow_add-i-2 c).Start).twice, (W (goal.at.overflow_add-i-2 c).Start).most, c.requires)

pub byte_at-requires-2 : goal.byte_at-requires-2
byte_at-requires-2 c = (
  omega (arith, (W (goal.at.byte_at-requires-2 c).Start).twice, (W (goal.at.byte_at-requires-2 c).Start).most, c.requires, c.args.self.now.ready.sheet_long),
  sheet_byte c.args.self.now.round c.args.self.now.sum c.args.self.now.kept.now c.args.self.now.sheet.now c.args.self.now.ready (c.args.i + 1)
      (omega arith) (omega (arith, (W (goal.at.byte_at-requires-2 c).Start).twice, (W (goal.at.byte_at-requires-2 c).Start).most, c.requires)),
)

pub returns : goal.returns
unfolding differing
returns c =
    let h : (get_or (ps (goal.at.returns c).Start) c.args.i no_pair).top ≡ bytes.add (bit (c.args.i + 1) c.args.self.now.sum) (get_or c.args.self.now.sheet.now (c.args.i + 1) 0) =
    ap (λ (z : Pair ℕ). z.top)
    (next_pair c.args.self.now.round c.args.self.now.sum c.args.self.now.kept.now c.args.self.now.sheet.now c.args.self.now.ready c.if-self-ne2.false c.args.i c.if-i-eq0.false c.requires) in
    c.add.ensures ∙ ap₂ bytes.add c.bit.ensures c.byte_at-2.ensures ∙ sym h
