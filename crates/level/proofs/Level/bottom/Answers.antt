-- `bottom` meets its contract. Assumes nothing.
use mathlib.Core.Path.{◌≡◌, sym, ap, ◌∙◌}
use mathlib.Core.List.{List}
use Prim.Native.Nat.{ℕ, ◌+◌, ◌*◌}
use native.Mathlib.Omega.{arith}
use lib.Dec.{lit<}
use lib.ListN.{get_or}
use Rattle.fields.specs.Bits.{bit}
use Rattle.fields.specs.Byte.{bytes}
use Rattle.comparison.specs.Local.{on_shares}
use Rattle.comparison.specs.Rounds.{first_carry}
use Rattle.comparison.specs.Pairs.{Pair}
use Rattle.comparison.proofs.Values.{bit_byte}
use Rattle.comparison.proofs.Levels.{public_share}
use Rattle.level.specs.Level.{level_pairs, no_pair}
use Rattle.level.proofs.Laws.{Wide, wide, kept_byte, sheet_byte, later_pair, first_pair, next_pair}
use Rattle.level.proofs.Level.bottom.Goals as goal
use Rattle.level.proofs.Level.bottom.Goals.{Start}

W : (s : Start) → Wide s.args.self.now.round
W s = wide s.args.self.now.round s.args.self.now.ready.least s.args.self.now.ready.most

abbrev ps : Start → List (Pair ℕ)
ps s = level_pairs s.args.self.now.round s.args.self.now.sum s.args.self.now.kept.now s.args.self.now.sheet.now

pub overflow_mul-i : goal.overflow_mul-i
overflow_mul-i c =
    omega (arith, (W (goal.at.overflow_mul-i c).Start).twice, (W (goal.at.overflow_mul-i c).Start).most, c.requires)

pub overflow_add-i : goal.overflow_add-i
overflow_add-i c =
    omega (arith, (W (goal.at.overflow_add-i c).Start).twice, (W (goal.at.overflow_add-i c).Start).most, c.requires)

pub byte_at-requires : goal.byte_at-requires
byte_at-requires c = (
  omega (arith, (W (goal.at.byte_at-requires c).Start).twice, (W (goal.at.byte_at-requires c).Start).later c.if-self-ne2.true, c.requires, c.args.self.now.ready.kept_long),
  kept_byte c.args.self.now.round c.args.self.now.sum c.args.self.now.kept.now c.args.self.now.sheet.now c.args.self.now.ready (2 * c.args.i + 1)
      (omega (arith, (W (goal.at.byte_at-requires c).Start).twice, (W (goal.at.byte_at-requires c).Start).later c.if-self-ne2.true, c.requires)),
)

pub returns-then-self-ne2 : goal.returns-then-self-ne2
returns-then-self-ne2 c =
    c.byte_at.ensures
    ∙ sym (ap (λ (z : Pair ℕ). z.bottom) (later_pair c.args.self.now.round c.args.self.now.sum c.args.self.now.kept.now c.args.self.now.sheet.now c.args.self.now.ready c.if-self-ne2.true c.args.i c.requires))

pub byte_at-requires-then-i-eq0 : goal.byte_at-requires-then-i-eq0
byte_at-requires-then-i-eq0 c = (
  omega (arith, c.args.self.now.ready.sheet_long),
  sheet_byte c.args.self.now.round c.args.self.now.sum c.args.self.now.kept.now c.args.self.now.sheet.now c.args.self.now.ready 1 (lit< tt) (lit< tt),
)

pub returns-then-i-eq0 : goal.returns-then-i-eq0
returns-then-i-eq0 c =
    let h : (get_or (ps (goal.at.returns-then-i-eq0 c).Start) c.args.i no_pair).bottom ≡ first_carry (on_shares bytes) c.args.self.now.sum (get_or c.args.self.now.sheet.now 1 0) =
    ap (λ (k : ℕ). (get_or (ps (goal.at.returns-then-i-eq0 c).Start) k no_pair).bottom) c.if-i-eq0.true
    ∙ ap (λ (z : Pair ℕ). z.bottom) (first_pair c.args.self.now.round c.args.self.now.sum c.args.self.now.kept.now c.args.self.now.sheet.now c.args.self.now.ready c.if-self-ne2.false) in
    c.first_carry.ensures ∙ ap (first_carry (on_shares bytes) c.args.self.now.sum) c.byte_at-then-i-eq0.ensures ∙ sym h

pub overflow_add-i-2 : goal.overflow_add-i-2
overflow_add-i-2 c =
    omega (arith, (W (goal.at.overflow_add-i-2 c).Start).twice, (W (goal.at.overflow_add-i-2 c).Start).most, c.requires)

pub returns : goal.returns
returns c =
    c.bit.ensures
    ∙ sym
    (ap (λ (z : Pair ℕ). z.bottom)
    (next_pair c.args.self.now.round c.args.self.now.sum c.args.self.now.kept.now c.args.self.now.sheet.now c.args.self.now.ready c.if-self-ne2.false c.args.i c.if-i-eq0.false c.requires)
    ∙ public_share (bit (c.args.i + 1) c.args.self.now.sum) (get_or c.args.self.now.sheet.now (c.args.i + 1) 0) (bit_byte (c.args.i + 1) c.args.self.now.sum)
    (sheet_byte c.args.self.now.round c.args.self.now.sum c.args.self.now.kept.now c.args.self.now.sheet.now c.args.self.now.ready (c.args.i + 1) (omega arith) (omega (arith, (W (goal.at.returns c).Start).twice, (W (goal.at.returns c).Start).most, c.requires))))
