-- `write_bits` meets its contract: the bits before i are shared, each with the t bytes from i * t on, and are shifted out. Assumes nothing.
use mathlib.Core.Path.{◌≡◌, sym, ap, ◌∙◌}
use mathlib.Core.List.{◌∷◌}
use Prim.Native.Nat.{ℕ, ◌+◌, ◌-◌, ◌*◌, ◌/◌, ◌%◌, ◌^◌, ◌≤◌, ◌<◌}
use native.Mathlib.Nat.{mul-le-mul_right, div-div-eq-div-mul, pow-suc}
use native.Mathlib.Numerals.{add-one}
use native.Mathlib.Omega.{arith}
use lib.Bits.{bit_and, and_mask}
use lib.ListN.{length, take, drop}
use lib.Seq.{take_all}
use Rattle.fields.specs.Byte.{bytes}
use Rattle.sharing.specs.Polynomial.{value}
use Rattle.ranges.proofs.Loops.{fill}
use Rattle.fields.specs.Bits.{bit}
use Rattle.dealer.specs.Deal.{byte_shares, mask_bits}
use Rattle.dealer.proofs.Laws.{length_shares, share_at, length_bits, bit_at}
use Rattle.dealer.proofs.write_bits.Goals as goal
use Rattle.dealer.proofs.write_bits.Goals.{In-loop-i}

-- the bytes of a bit are there
fits : (c : In-loop-i) → c.loop-i.i * c.args.t + c.args.t ≤ length c.args.drawn.now
fits c =
    let l = c.loop-i in
    let r : (l.i + 1) * c.args.t ≤ 33 * c.args.t = mul-le-mul_right c.args.t (omega arith) in
    omega (arith, c.requires.0)

-- the lowest bit of what is left, and the rest of it
lowest : (rest mask i : ℕ) → rest ≡ mask / 2 ^ i → bit_and rest 1 ≡ bit (1 + i) mask
unfolding bit
lowest rest mask i e =
    let j : i ≡ 1 + i - 1 = omega arith in
    and_mask rest 1 ∙ ap (λ (x : ℕ). x % 2) e ∙ ap (λ (k : ℕ). mask / 2 ^ k % 2) j

shifted : (rest mask i : ℕ) → rest ≡ mask / 2 ^ i → rest / 2 ≡ mask / 2 ^ (i + 1)
shifted rest mask i e =
    ap (λ (x : ℕ). x / 2) e ∙ div-div-eq-div-mul mask (2 ^ i) 2 ∙ ap (λ (x : ℕ). mask / x) (sym (pow-suc 2 i) ∙ ap (λ (k : ℕ). 2 ^ k) (sym (add-one i)))

pub overflow_cast-bit : goal.overflow_cast-bit
overflow_cast-bit c = omega (arith, and_mask c.loop-i.rest 1)

pub share_from-requires : goal.share_from-requires
share_from-requires c = fits (goal.at.share_from-requires c).In-loop-i

pub loop-i-preserved : goal.loop-i-preserved
loop-i-preserved c =
    let l = c.loop-i in
    let a = c.args in
    let h : l.i < 33 = omega arith in (
      shifted l.rest a.mask l.i l.invariant.0,
      fill l.shares (byte_shares a.t a.row.now.byte (mask_bits a.mask) a.drawn.now) l.i c.share_from.result (omega arith)
          (rw (length_shares, length_bits) h)
          (c.share_from.ensures
          ∙ ap (λ (x : ℕ). value bytes (x ∷ take a.t (drop (l.i * a.t) a.drawn.now)) a.row.now.byte) (lowest l.rest a.mask l.i l.invariant.0 ∙ sym (bit_at a.mask l.i h))
          ∙ sym (share_at a.t a.row.now.byte (mask_bits a.mask) a.drawn.now l.i (rw length_bits h)))
          l.invariant.1,
    )

pub returns : goal.returns
returns c =
    let l = c.loop-i in
    let a = c.args in
    sym (take_all l.i l.shares (omega arith)) ∙ l.invariant.1
    ∙ take_all l.i (byte_shares a.t a.row.now.byte (mask_bits a.mask) a.drawn.now)
    (omega (arith, length_shares a.t a.row.now.byte (mask_bits a.mask) a.drawn.now, length_bits a.mask))
