-- Entry after entry: a call for one entry changes one place, and all 2k entries, in any order, leave what `split` writes from the same
-- words. Assumes nothing.
use Rattle.std.specs.Prelude.{Err, Ok}
use mathlib.Core.Path.{◌≡◌, refl, sym, ap, ap₂, ◌∙◌}
use mathlib.Core.Logic.{◌↔◌}
use mathlib.Core.Bool.{Bool, true, false, ◌&&◌, ◌||◌}
use mathlib.Core.List.{List, [], ◌∷◌}
use Prim.Native.Nat.{ℕ, zero, suc, ◌+◌, ◌-◌, ◌*◌, ◌≤◌, ◌<◌}
use native.Mathlib.Nat.{mul-le-mul_right}
use native.Mathlib.Omega.{arith}
use lib.Dec.{leb, ltb, eqb}
use lib.ListN.{length, take, drop, set, get_or, length-set, length-drop}
use lib.Seq.{length-take-le, drop-drop, get_or-set_same, get_or-set_other, ext_get_or}
use borrow.Author.Tests.{leb-true, le-leb, eqb-true, eqb-false}
use Rattle.fields.specs.Amount.{p, amounts}
use Rattle.refusal.specs.declared.Refusal.{Refusal}
use Rattle.refusal.proofs.Judging.{kept_new, kept_old, kept_either}
use Rattle.ranges.specs.Lists.{from, every, member}
use Rattle.ranges.specs.Orders.{Shuffle}
use Rattle.ranges.proofs.Ends.{every_parts}
use Rattle.ranges.proofs.Loops.{and-true, every_from, member_from}
use Rattle.ranges.proofs.Orders.{shuffle_every, shuffle_member}
use Rattle.ranges.proofs.Ranges.{all_below, is_below, below_take, below_drop}
use Rattle.sharing.specs.Polynomial.{value}
use Rattle.sharing.specs.Scheme.{threshold}
use Rattle.bid.specs.Split.{split_judgement, bid_shares, split_left}
use Rattle.bid.specs.Entry.{is_entry, split_entry_judgement, split_entry_left, entry_coins, entries_left}
use Rattle.bid.proofs.Laws.{length_shares, entry, Splits, split_accepted, splits, SplitsEntry, splits_entry, split_entry_accepted}

-- ---- one entry, accepted or refused

module _ (n own k entry : ℕ) (table coins shares : List ℕ) where
  -- a refused one changes nothing
  pub refused_same : (why : Refusal) → split_entry_judgement n own k entry table coins shares ≡ Err why
      → split_entry_left n own k entry table coins shares ≡ shares
  refused_same why e = kept_old _ _ shares why e

  -- an accepted one writes its share at its place
  pub its_place : split_entry_judgement n own k entry table coins shares ≡ Ok tt
      → get_or (split_entry_left n own k entry table coins shares) (entry - 1) 0 ≡ value amounts (get_or table (entry - 1) 0 ∷ coins) own
  its_place e =
      let S = splits_entry n own k entry table coins shares e in
      ap (λ (l : List ℕ). get_or l (entry - 1) 0) (kept_new _ _ shares e)
      ∙ get_or-set_same shares (entry - 1) _ 0 (omega (arith, S.entry_least, S.entry_most, S.shares_long))

  -- and either changes no other
  pub one_place : (i : ℕ) → (i ≡ entry - 1 → ⊥) → get_or (split_entry_left n own k entry table coins shares) i 0 ≡ get_or shares i 0
  one_place i other =
      kept_either _ _ shares (λ (l : List ℕ). get_or l i 0 ≡ get_or shares i 0) (λ h. get_or-set_other shares (entry - 1) i _ 0 other) refl

  pub length_left : length (split_entry_left n own k entry table coins shares) ≡ length shares
  length_left = kept_either _ _ shares (λ (l : List ℕ). length l ≡ length shares) (λ h. length-set shares (entry - 1) _) refl

length_after : (n own k : ℕ) (table coins order shares : List ℕ) → length (entries_left n own k table coins order shares) ≡ length shares
unfolding entries_left
length_after n own k table coins [] shares = refl
length_after n own k table coins (e ∷ es) shares =
    length_after n own k table coins es _ ∙ length_left n own k e table (entry_coins (threshold n) e coins) shares

-- 1 to 2k are the entries
pub all_are_entries : (k : ℕ) (order : List ℕ) → Shuffle (from 1 (2 * k)) order → every (is_entry k) order ≡ true
all_are_entries k order s =
    shuffle_every (is_entry k) s (every_from (is_entry k) 1 (2 * k) (λ e l m. ap₂ ◌&&◌ (le-leb 1 e l) (le-leb e (2 * k) (omega arith))))

-- ---- all entries, with the words of a call that is accepted

module _ {n own k : ℕ} {table coins lent : List ℕ} (S : Splits n own k table coins lent) where
  abbrev t : ℕ
  t = threshold n

  -- what `split` writes
  abbrev whole : List ℕ
  whole = bid_shares t own table coins

  whole_long : length whole ≡ 2 * k
  whole_long = length_shares t own table coins ∙ S.table_long

  module _ (e : ℕ) (h : is_entry k e ≡ true) (shares : List ℕ) (l : length shares ≡ 2 * k) where
    entry_facts : SplitsEntry n own k e table (entry_coins t e coins) shares
    entry_facts =
        let w = and-true (leb 1 e) (leb e (2 * k)) h in
        let e1 = leb-true 1 e w.0 in
        let e2 = leb-true e (2 * k) w.1 in
        let room : (e - 1 + 1) * t ≤ 2 * k * t = mul-le-mul_right t (omega arith) in
        record {
          listed = S.listed;
          entry_least = e1;
          entry_most = e2;
          table_long = S.table_long;
          coins_long = length-take-le t (drop ((e - 1) * t) coins) (omega (arith, length-drop ((e - 1) * t) coins, S.coins_long, room));
          shares_long = l;
          faultless =
              record {
                coins_below = below_take p t (drop ((e - 1) * t) coins) (below_drop p ((e - 1) * t) coins S.faultless.coins_below);
                small = S.faultless.small;
                monotone = S.faultless.monotone;
              };
        }

    pub entry_accepted : split_entry_judgement n own k e table (entry_coins t e coins) shares ≡ Ok tt
    entry_accepted = split_entry_accepted n own k e table (entry_coins t e coins) shares entry_facts

    -- the share that `split` writes there
    entry_written : split_entry_left n own k e table (entry_coins t e coins) shares ≡ set shares (e - 1) (get_or whole (e - 1) 0)
    entry_written =
        kept_new _ _ shares entry_accepted
        ∙ ap (set shares (e - 1))
        (sym (entry t own table coins (e - 1) (omega (arith, S.table_long, entry_facts.entry_least, entry_facts.entry_most))))

  -- a place that is as `split` writes it stays so, and an entry that is written is so
  module _ (i : ℕ) (il : i < 2 * k) where
    abbrev Right : List ℕ → Type 0
    Right shares = get_or shares i 0 ≡ get_or whole i 0

    here : (m : ℕ) (shares : List ℕ) → length shares ≡ 2 * k → i ≡ m → Right (set shares m (get_or whole m 0))
    here m shares l e =
        ap (λ (z : ℕ). get_or (set shares z (get_or whole z 0)) i 0) (sym e) ∙ get_or-set_same shares i (get_or whole i 0) 0 (omega (arith, l))

    stays : (m : ℕ) (shares : List ℕ) → length shares ≡ 2 * k → Right shares → Right (set shares m (get_or whole m 0))
    stays m shares l r = cases (eqb i m) refl
      where
        cases : (b : Bool) → eqb i m ≡ b → Right (set shares m (get_or whole m 0))
        cases true f = here m shares l (eqb-true i m f)
        cases false f = get_or-set_other shares m i _ 0 (eqb-false i m f) ∙ r

    all_stay : (order shares : List ℕ) → every (is_entry k) order ≡ true → length shares ≡ 2 * k → Right shares
        → Right (entries_left n own k table coins order shares)
    unfolding entries_left every
    all_stay [] shares h l r = r
    all_stay (e ∷ es) shares h l r =
        let w = and-true (is_entry k e) (every (is_entry k) es) h in
        all_stay es (split_entry_left n own k e table (entry_coins t e coins) shares) w.1 (length_left n own k e table (entry_coins t e coins) shares ∙ l)
        (ap (λ (z : List ℕ). get_or z i 0) (entry_written e w.0 shares l) ∙ stays (e - 1) shares l r)

    written : (order shares : List ℕ) → every (is_entry k) order ≡ true → length shares ≡ 2 * k → member (suc i) order ≡ true
        → Right (entries_left n own k table coins order shares)
    unfolding entries_left every member
    written [] shares h l m = cc
    written (e ∷ es) shares h l m = cases (eqb (suc i) e) refl m (λ g. written es next parts.1 long g)
      where
        next : List ℕ
        next = split_entry_left n own k e table (entry_coins t e coins) shares

        parts : (is_entry k e ≡ true) × (every (is_entry k) es ≡ true)
        parts = and-true (is_entry k e) (every (is_entry k) es) h

        long : length next ≡ 2 * k
        long = length_left n own k e table (entry_coins t e coins) shares ∙ l

        cases : (b : Bool) → eqb (suc i) e ≡ b → b || member (suc i) es ≡ true
            → (member (suc i) es ≡ true → Right (entries_left n own k table coins es next)) → Right (entries_left n own k table coins es next)
        cases true f g go =
            let there : i ≡ e - 1 = omega (arith, eqb-true (suc i) e f) in
            all_stay es next parts.1 long (ap (λ (z : List ℕ). get_or z i 0) (entry_written e parts.0 shares l) ∙ here (e - 1) shares l there)
        cases false f g go = go g

-- ---- the promise

-- with the words of a call that is accepted, on a slice that may hold anything
module _ (n own k : ℕ) (table coins lent : List ℕ) (accepted : split_judgement n own k table coins lent ≡ Ok tt)
    (shares : List ℕ) (l : length shares ≡ 2 * k) where
  -- every entry is written once or more
  pub all_written : (order : List ℕ) → every (is_entry k) order ≡ true → ((e : ℕ) → 1 ≤ e → e ≤ 2 * k → member e order ≡ true)
      → entries_left n own k table coins order shares ≡ split_left n own k table coins lent
  all_written order h there =
      let S = splits n own k table coins lent accepted in
      let left = length_after n own k table coins order shares in
      ext_get_or 0 (entries_left n own k table coins order shares) (whole S) (left ∙ l ∙ sym (whole_long S))
      (λ i b. let c : i < 2 * k = omega (arith, b, left, l) in written S i c order shares h l (there (suc i) (omega arith) c))
      ∙ sym (kept_new _ (whole S) lent accepted)

  -- "Entry after entry, the bundle is the one the whole-table call writes from the same words", whatever it held before
  pub any_order : (order : List ℕ) → Shuffle (from 1 (2 * k)) order → entries_left n own k table coins order shares ≡ split_left n own k table coins lent
  any_order order s = all_written order (all_are_entries k order s) (λ e e1 e2. shuffle_member e s (member_from e 1 (2 * k) e1 (omega arith)))

-- ---- the two ways are judged alike

-- what holds of each group of t words holds of all
groups_pass : (test : ℕ → Bool) (t m : ℕ) (xs : List ℕ) → length xs ≤ m * t → ((e : ℕ) → e < m → every test (take t (drop (e * t) xs)) ≡ true)
    → every test xs ≡ true
unfolding every
groups_pass test t zero [] l h = refl
groups_pass test t zero (x ∷ xs) l h = absurd (omega arith)
groups_pass test t (suc m) xs l h =
    let z : 0 * t ≡ 0 = omega arith in
    every_parts test t xs (ap (λ (i : ℕ). every test (take t (drop i xs))) (sym z) ∙ h 0 (omega arith))
    (groups_pass test t m (drop t xs) (omega (arith, length-drop t xs))
    (λ e b.
    let i : t + e * t ≡ suc e * t = omega arith in
    ap (λ (ys : List ℕ). every test (take t ys)) (drop-drop (e * t) t xs ∙ ap (λ (i : ℕ). drop i xs) i) ∙ h (suc e) (omega arith)))

-- every entry is accepted with its t words exactly where the whole table is with all of them
pub judged_alike : (n own k : ℕ) (table coins shares : List ℕ) → 1 ≤ k → length coins ≡ 2 * k * threshold n
    → ((e : ℕ) → 1 ≤ e → e ≤ 2 * k → split_entry_judgement n own k e table (entry_coins (threshold n) e coins) shares ≡ Ok tt)
    ↔ (split_judgement n own k table coins shares ≡ Ok tt)
judged_alike n own k table coins shares k1 l = (
  (λ each.
      let facts : (e : ℕ) → 1 ≤ e → e ≤ 2 * k → SplitsEntry n own k e table (entry_coins (threshold n) e coins) shares =
      λ e e1 e2. splits_entry n own k e table (entry_coins (threshold n) e coins) shares (each e e1 e2) in
      let first = facts 1 (omega arith) (omega arith) in
      split_accepted n own k table coins shares
      (record {
        listed = first.listed;
        table_long = first.table_long;
        coins_long = l;
        shares_long = first.shares_long;
        faultless =
            record {
              coins_below =
                  all_below p coins
                  (groups_pass (λ c. ltb c p) (threshold n) (2 * k) coins (omega arith)
                  (λ e b.
                  let i : suc e - 1 ≡ e = omega arith in
                  ap (λ (i : ℕ). every (λ c. ltb c p) (take (threshold n) (drop (i * threshold n) coins))) (sym i)
                  ∙ is_below p (entry_coins (threshold n) (suc e) coins) (facts (suc e) (omega arith) (omega arith)).faultless.coins_below));
              small = first.faultless.small;
              monotone = first.faultless.monotone;
            };
      })),
  (λ h e e1 e2. let S = splits n own k table coins shares h in entry_accepted S e (ap₂ ◌&&◌ (le-leb 1 e e1) (le-leb e (2 * k) e2)) shares S.shares_long),
)
