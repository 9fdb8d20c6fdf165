-- Laws of splitting a bid. Assumes nothing.
use Rattle.std.specs.Prelude.{Ok}
use mathlib.Core.Path.{◌≡◌, refl, sym, ap, ap₂, ◌∙◌}
use mathlib.Core.Bool.{Bool, true, false, not, ◌&&◌}
use mathlib.Core.List.{List, [], ◌∷◌}
use Prim.Native.Nat.{ℕ, suc, ◌*◌, ◌≤◌, ◌<◌}
use lib.Dec.{leb, ltb, leb-suc-suc}
use lib.ListN.{length, take, drop, get_or}
use borrow.Author.Tests.{leb-true, le-leb, eqb-true, eq-eqb, not-false}
use Rattle.fields.specs.Amount.{p, amounts}
use Rattle.ranges.specs.Below.{AllBelow}
use Rattle.ranges.specs.Lists.{every}
use Rattle.ranges.specs.Sizes.{long}
use Rattle.ranges.proofs.Loops.{and_left, and-true}
use Rattle.ranges.proofs.Ranges.{OnList, on_list, on_list_of, all_below, is_below}
use Rattle.refusal.specs.Judging.{judged}
use Rattle.refusal.proofs.Judging.{passes, passed}
use Rattle.sharing.specs.Polynomial.{value}
use Rattle.sharing.specs.Scheme.{threshold}
use Rattle.sharing.proofs.Shares.{length_each, each_at}
use Rattle.bid.specs.Table.{most, monotone}
use Rattle.bid.specs.Split.{faults, split_judgement, bid_shares}
use Rattle.bid.specs.Entry.{split_entry_judgement}

-- ---- the shares, entry by entry

module _ (t own : ℕ) where
  pub length_shares : (table coins : List ℕ) → length (bid_shares t own table coins) ≡ length table
  length_shares = length_each amounts t own

  pub entry : (table coins : List ℕ) (e : ℕ) → e < length table
      → get_or (bid_shares t own table coins) e 0 ≡ value amounts (get_or table e 0 ∷ take t (drop (e * t) coins)) own
  entry = each_at amounts t own

-- an amount above 4,194,303 is one that is not below 4,194,304
pub at_most : (xs : List ℕ) → every (λ a. leb a most) xs ≡ every (λ a. ltb a (suc most)) xs
unfolding every
at_most [] = refl
at_most (x ∷ xs) = ap₂ ◌&&◌ (sym (leb-suc-suc x most)) (at_most xs)

-- ---- a call is accepted exactly where it is given this

-- the table's length among those that are judged
pub table_long : (m : ℕ) (table : List ℕ) (coins shares : Bool) → not (long m table && coins && shares) ≡ false → length table ≡ m
table_long m table coins shares e = eqb-true (length table) m (and_left _ coins (and_left _ shares (not-false _ e)))

-- what the slices hold is free of faults
pub record Faultless (k : ℕ) (table coins : List ℕ) : Type 0 where
  pub coins_below : AllBelow p coins
  pub small : every (λ a. leb a most) table ≡ true
  pub monotone : monotone k table ≡ true

module _ (k : ℕ) (table coins : List ℕ) where
  faultless : judged (faults k table coins) ≡ Ok tt → Faultless k table coins
  faultless e =
      let coin = passed _ _ _ e in
      let amount = passed _ _ _ coin.1 in
      let step = passed _ _ _ amount.1 in
      record {
        coins_below = all_below p coins (not-false _ coin.0);
        small = not-false _ amount.0;
        monotone = not-false _ step.0;
      }

  no_fault : Faultless k table coins → judged (faults k table coins) ≡ Ok tt
  unfolding judged
  no_fault h = rw (is_below p coins h.coins_below, h.small, h.monotone)

pub record Splits (n own k : ℕ) (table coins shares : List ℕ) : Type 0 where
  pub listed : OnList n own k
  pub table_long : length table ≡ 2 * k
  pub coins_long : length coins ≡ 2 * k * threshold n
  pub shares_long : length shares ≡ 2 * k
  pub faultless : Faultless k table coins

module _ (n own k : ℕ) (table coins shares : List ℕ) where
  pub splits : split_judgement n own k table coins shares ≡ Ok tt → Splits n own k table coins shares
  unfolding split_judgement
  splits e =
      let range = passed _ _ _ e in
      let sizes = passed _ _ _ range.1 in
      let l = and-true _ _ (not-false _ sizes.0) in
      let l' = and-true _ _ l.0 in
      record {
        listed = on_list n own k (not-false _ range.0);
        table_long = eqb-true _ _ l'.0;
        coins_long = eqb-true _ _ l'.1;
        shares_long = eqb-true _ _ l.1;
        faultless = faultless k table coins sizes.1;
      }

  pub split_accepted : Splits n own k table coins shares → split_judgement n own k table coins shares ≡ Ok tt
  unfolding split_judgement
  split_accepted h =
      passes _ _ _ (ap not (on_list_of n own k h.listed))
      ∙ passes _ _ _
      (rw (eq-eqb (length table) (2 * k) h.table_long, eq-eqb (length coins) (2 * k * threshold n) h.coins_long, eq-eqb (length shares) (2 * k) h.shares_long))
      ∙ no_fault k table coins h.faultless

pub record SplitsEntry (n own k entry : ℕ) (table coins shares : List ℕ) : Type 0 where
  pub listed : OnList n own k
  pub entry_least : 1 ≤ entry
  pub entry_most : entry ≤ 2 * k
  pub table_long : length table ≡ 2 * k
  pub coins_long : length coins ≡ threshold n
  pub shares_long : length shares ≡ 2 * k
  pub faultless : Faultless k table coins

module _ (n own k entry : ℕ) (table coins shares : List ℕ) where
  pub splits_entry : split_entry_judgement n own k entry table coins shares ≡ Ok tt → SplitsEntry n own k entry table coins shares
  unfolding split_entry_judgement
  splits_entry e =
      let range = passed _ _ _ e in
      let sizes = passed _ _ _ range.1 in
      let r = and-true _ _ (not-false _ range.0) in
      let r' = and-true _ _ r.1 in
      let l = and-true _ _ (not-false _ sizes.0) in
      let l' = and-true _ _ l.0 in
      record {
        listed = on_list n own k r.0;
        entry_least = leb-true 1 entry r'.0;
        entry_most = leb-true entry (2 * k) r'.1;
        table_long = eqb-true _ _ l'.0;
        coins_long = eqb-true _ _ l'.1;
        shares_long = eqb-true _ _ l.1;
        faultless = faultless k table coins sizes.1;
      }

  pub split_entry_accepted : SplitsEntry n own k entry table coins shares → split_entry_judgement n own k entry table coins shares ≡ Ok tt
  unfolding split_entry_judgement
  split_entry_accepted h =
      passes _ _ _ (rw (on_list_of n own k h.listed, le-leb 1 entry h.entry_least, le-leb entry (2 * k) h.entry_most))
      ∙ passes _ _ _
      (rw (eq-eqb (length table) (2 * k) h.table_long, eq-eqb (length coins) (threshold n) h.coins_long, eq-eqb (length shares) (2 * k) h.shares_long))
      ∙ no_fault k table coins h.faultless
