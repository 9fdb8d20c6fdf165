-- Laws of dealing. Assumes nothing.
use Rattle.std.specs.Prelude.{Ok}
use mathlib.Core.Path.{◌≡◌, refl, ap₂, ◌∙◌}
use mathlib.Core.Bool.{true}
use mathlib.Core.List.{List, ◌∷◌}
use Prim.Native.Nat.{ℕ, zero, suc, ◌+◌, ◌*◌, ◌^◌, ◌<◌}
use native.Mathlib.Omega.{arith}
use lib.ListN.{length, take, drop, get_or, length-append}
use borrow.Author.Tests.{ltb-true, lt-ltb, eqb-true, eq-eqb, not-false}
use Rattle.ranges.specs.Below.{AllBelow}
use Rattle.ranges.specs.Lists.{from}
use Rattle.ranges.proofs.Loops.{and-true, map_from}
use Rattle.ranges.proofs.Ranges.{IsParty, a_party, is_party, all_below, is_below}
use Rattle.refusal.specs.Judging.{judged}
use Rattle.refusal.proofs.Judging.{passed}
use Rattle.fields.specs.Amount.{p}
use Rattle.fields.specs.Bits.{bit}
use Rattle.fields.specs.Byte.{bytes}
use Rattle.sharing.specs.Polynomial.{value}
use Rattle.sharing.specs.Scheme.{threshold}
use Rattle.sharing.proofs.Shares.{length_each, each_at}
use Rattle.ways.specs.Way.{is_way, way_of, sheet_size, drawn_size}
use Rattle.dealer.specs.Deal.{deal_judgement, byte_shares, mask_bits, triple, triples}

-- ---- shares of bytes, one after the other

module _ (t own : ℕ) where
  pub length_shares : (secrets drawn : List ℕ) → length (byte_shares t own secrets drawn) ≡ length secrets
  length_shares = length_each bytes t own

  pub share_at : (secrets drawn : List ℕ) (e : ℕ) → e < length secrets
      → get_or (byte_shares t own secrets drawn) e 0 ≡ value bytes (get_or secrets e 0 ∷ take t (drop (e * t) drawn)) own
  share_at = each_at bytes t own

-- the bits of a mask
pub length_bits : (b : ℕ) → length (mask_bits b) ≡ 33
unfolding from
length_bits b = refl

pub bit_at : (b i : ℕ) → i < 33 → get_or (mask_bits b) i 0 ≡ bit (1 + i) b
bit_at b i h = map_from (λ i. bit i b) 0 1 33 i h

-- ---- triples

module _ (t own : ℕ) where
  pub length_triple : (drawn : List ℕ) → length (triple t own drawn) ≡ 3
  unfolding triple
  length_triple drawn = length_shares t own _ (drop 2 drawn)

  pub length_triples : (m : ℕ) (drawn : List ℕ) → length (triples t own m drawn) ≡ 3 * m
  unfolding triples
  length_triples zero drawn = refl
  length_triples (suc m) drawn =
      length-append (triple t own drawn) (triples t own m (drop (2 + 3 * t) drawn))
      ∙ ap₂ (λ (a b : ℕ). a + b) (length_triple drawn) (length_triples m (drop (2 + 3 * t) drawn)) ∙ omega arith

-- ---- a call is accepted exactly where it is given this

pub record Deals (n own last : ℕ) (words drawn sheet : List ℕ) : Type 0 where
  pub party : IsParty n own
  pub way : is_way last ≡ true
  pub words_long : length words ≡ 1 + threshold n
  pub drawn_long : length drawn ≡ drawn_size (way_of last) (threshold n)
  pub sheet_long : length sheet ≡ sheet_size (way_of last)
  pub mask_below : get_or words 0 0 < 2 ^ 58
  pub coins_below : AllBelow p (drop 1 words)

module _ (n own last : ℕ) (words drawn sheet : List ℕ) where
  pub deals : deal_judgement n own last words drawn sheet ≡ Ok tt → Deals n own last words drawn sheet
  unfolding deal_judgement
  deals e =
      let range = passed _ _ _ e in
      let who = and-true _ _ (not-false _ range.0) in
      let sizes = passed _ _ _ range.1 in
      let coin = passed _ _ _ sizes.1 in
      let l = and-true _ _ (not-false _ sizes.0) in
      let l' = and-true _ _ l.0 in
      let m = and-true _ _ (not-false _ coin.0) in
      record {
        party = a_party n own who.0;
        way = who.1;
        words_long = eqb-true _ _ l'.0;
        drawn_long = eqb-true _ _ l'.1;
        sheet_long = eqb-true _ _ l.1;
        mask_below = ltb-true _ _ m.0;
        coins_below = all_below p (drop 1 words) m.1;
      }

  pub deal_accepted : Deals n own last words drawn sheet → deal_judgement n own last words drawn sheet ≡ Ok tt
  unfolding deal_judgement judged
  deal_accepted h =
      simp (
        is_party n own h.party,
        h.way,
        eq-eqb _ _ h.words_long,
        eq-eqb _ _ h.drawn_long,
        eq-eqb _ _ h.sheet_long,
        lt-ltb _ _ h.mask_below,
        is_below p (drop 1 words) h.coins_below,
      )
