-- The polynomials of the totals, and the totals as numbers: each is the sum of the bids, unrounded and below 2^32. Assumes nothing.
use mathlib.Core.Path.{◌≡◌, refl, sym, ap, ap₂, ◌∙◌}
use mathlib.Core.Bool.{Bool, true}
use mathlib.Core.List.{List, [], ◌∷◌, map, zip, zip_with}
use Prim.Native.Nat.{ℕ, zero, suc, ◌+◌, ◌-◌, ◌*◌, ◌%◌, ◌^◌, ◌≤◌, ◌<◌}
use native.Mathlib.Nat.{mod-eq_of_lt, le_of_suc-le-suc, suc_inj}
use native.Mathlib.Decide.{dec_le}
use native.Mathlib.Omega.{arith}
use lib.Dec.{leb, lit<}
use lib.ListN.{length, replicate, take, drop, get_or, length-map, length-replicate, length-drop, get_or-replicate}
use lib.Seq.{length-take-le, get_or-take, get_or-drop}
use borrow.Author.Tests.{leb-true}
use Rattle.fields.specs.Amount.{p, amounts}
use Rattle.fields.proofs.Fields.{amount_field}
use Rattle.ranges.specs.Lists.{every, sum}
use Rattle.sharing.specs.Linear.{sums}
use Rattle.sharing.specs.Scheme.{threshold}
use Rattle.sharing.proofs.Laws.{sums_length, sums_lt}
use Rattle.ranges.proofs.Loops.{and_left, and_right}
use Rattle.search.specs.Clearing.{Monotone}
use Rattle.search.proofs.Sides.{side_of}
use Rattle.comparison.specs.Probe.{Each, Group, secret}
use Rattle.comparison.proofs.Values.{Shared}
use Rattle.comparison.proofs.Lists.{each_at}
use Rattle.comparison.proofs.Dealt.{shared_cons}
use Rattle.comparison.proofs.Plain.{each_replicate, zeros_group}
use Rattle.ranges.specs.Steps.{steps}
use Rattle.bid.specs.Table.{most, monotone}
use Rattle.roll.proofs.Entry.{bidders_few}
use Rattle.auction.specs.Auction.{Auction, Bid, bidders, GoodTable, IsAuction, demand, supply, left_side, right_side}
use Rattle.auction.specs.Coins.{Coins, DrawnBid, InRange}
use Rattle.auction.proofs.Closed.{entries, added_polynomials, totals_after, no_totals, polynomials}

-- ---- lists

pub each_imp : {A : Type 0} (P Q : A → Type 0) (xs : List A) → ((x : A) → P x → Q x) → Each P xs → Each Q xs
each_imp P Q [] f h = tt
each_imp P Q (x ∷ xs) f h = (f x h.0, each_imp P Q xs f h.1)

pub map_zip : {A B C : Type 0} (f : A → C) (xs : List A) (ys : List B) → length ys ≡ length xs → map (λ e. f e.0) (zip xs ys) ≡ map f xs
unfolding zip zip_with
map_zip f [] ys l = refl
map_zip f (x ∷ xs) [] l = absurd (omega arith)
map_zip f (x ∷ xs) (y ∷ ys) l = ap (λ z. f x ∷ z) (map_zip f xs ys (suc_inj l))

pub length_zip : {A B : Type 0} (xs : List A) (ys : List B) → length ys ≡ length xs → length (zip xs ys) ≡ length xs
unfolding zip zip_with
length_zip [] ys l = refl
length_zip (x ∷ xs) [] l = absurd (omega arith)
length_zip (x ∷ xs) (y ∷ ys) l = ap suc (length_zip xs ys (suc_inj l))

-- ---- sums of numbers

module _ {A : Type 0} where
  pub sum_most : (f : A → ℕ) (m : ℕ) (xs : List A) → Each (λ x. f x ≤ m) xs → sum (map f xs) ≤ length xs * m
  unfolding sum
  sum_most f m [] h = omega arith
  sum_most f m (x ∷ xs) h = omega (arith, h.0, sum_most f m xs h.1)

  pub sum_rises : (f g : A → ℕ) (xs : List A) → Each (λ x. f x ≤ g x) xs → sum (map f xs) ≤ sum (map g xs)
  unfolding sum
  sum_rises f g [] h = omega arith
  sum_rises f g (x ∷ xs) h = omega (arith, h.0, sum_rises f g xs h.1)

-- ---- one table

pub small_at : (xs : List ℕ) (i : ℕ) → every (λ a. leb a most) xs ≡ true → get_or xs i 0 ≤ most
unfolding every
small_at [] i e = omega arith
small_at (x ∷ xs) zero e = leb-true x most (and_left (leb x most) (every (λ a. leb a most) xs) e)
small_at (x ∷ xs) (suc i) e = small_at xs i (and_right (leb x most) (every (λ a. leb a most) xs) e)

steps_at : (test : ℕ → ℕ → Bool) (xs : List ℕ) → steps test xs ≡ true → (i : ℕ) → suc i < length xs → test (get_or xs i 0) (get_or xs (suc i) 0) ≡ true
unfolding steps
steps_at test [] e i h = absurd (omega arith)
steps_at test (x ∷ []) e i h = absurd (omega arith)
steps_at test (x ∷ y ∷ ys) e zero h = and_left (test x y) (steps test (y ∷ ys)) e
steps_at test (x ∷ y ∷ ys) e (suc i) h = steps_at test (y ∷ ys) (and_right (test x y) (steps test (y ∷ ys)) e) i (omega arith)

-- what holds of each step holds of many, upwards and downwards
climbs : (f : ℕ → ℕ) (m : ℕ) → ((i : ℕ) → suc i < m → f i ≤ f (suc i)) → (i j : ℕ) → i ≤ j → j < m → f i ≤ f j
climbs f m h i zero l k = let e : i ≡ 0 = omega arith in rw e (omega arith)
climbs f m h i (suc j) l k =
    elim (dec_le i j) [
      | yes le ↦ omega (arith, climbs f m h i j le (omega arith), h j k)
      | no gt ↦ let e : i ≡ suc j = omega arith in rw e (omega arith)
    ]

sinks : (f : ℕ → ℕ) (m : ℕ) → ((i : ℕ) → suc i < m → f (suc i) ≤ f i) → (i j : ℕ) → i ≤ j → j < m → f j ≤ f i
sinks f m h i zero l k = let e : i ≡ 0 = omega arith in rw e (omega arith)
sinks f m h i (suc j) l k =
    elim (dec_le i j) [
      | yes le ↦ omega (arith, sinks f m h i j le (omega arith), h j k)
      | no gt ↦ let e : i ≡ suc j = omega arith in rw e (omega arith)
    ]

module _ (k : ℕ) (table : List ℕ) (G : GoodTable k table) where
  demand_steps : steps (λ x y. leb y x) (take k table) ≡ true
  unfolding monotone
  demand_steps = and_left (steps (λ x y. leb y x) (take k table)) (steps leb (drop k table)) G.monotone

  supply_steps : steps leb (drop k table) ≡ true
  unfolding monotone
  supply_steps = and_right (steps (λ x y. leb y x) (take k table)) (steps leb (drop k table)) G.monotone

  pub amount_most : (i : ℕ) → get_or table i 0 ≤ most
  amount_most i = small_at table i G.small

  -- demand and supply at an index and at a later one, counted from 0
  pub demand_sinks : (i j : ℕ) → i ≤ j → j < k → get_or table j 0 ≤ get_or table i 0
  demand_sinks i j l h =
      let long : length (take k table) ≡ k = length-take-le k table (omega (arith, G.long)) in
      rw (sym (get_or-take k table j 0 h), sym (get_or-take k table i 0 (omega arith)))
      (sinks (λ m. get_or (take k table) m 0) k
      (λ m hm. leb-true _ _ (steps_at (λ x y. leb y x) (take k table) demand_steps m (omega arith))) i j l h)

  pub supply_climbs : (i j : ℕ) → i ≤ j → j < k → get_or table (k + i) 0 ≤ get_or table (k + j) 0
  supply_climbs i j l h =
      rw (sym (get_or-drop k table i 0), sym (get_or-drop k table j 0))
      (climbs (λ m. get_or (drop k table) m 0) k
      (λ m hm. leb-true _ _ (steps_at leb (drop k table) supply_steps m (omega (arith, length-drop k table, G.long)))) i j l h)

-- ---- all tables

module _ {a : Auction} (A : IsAuction a) where
  -- "a list of 0 to 1,000 bids"
  pub few_bids : length a.bids ≤ 1000
  few_bids = omega (arith, bidders_few (bidders a) A.bidders, length-map a.bids (λ b. b.bidder))

  total_small : (i : ℕ) → sum (map (λ b. get_or b.table i 0) a.bids) < 2 ^ 32
  total_small i =
      omega (
        arith,
        few_bids,
        sum_most (λ b. get_or b.table i 0) most a.bids
            (each_imp (λ b. GoodTable a.k b.table) (λ b. get_or b.table i 0 ≤ most) a.bids (λ b G. amount_most a.k b.table G i) A.tables),
      )

  -- "At most 1,000 bids are held, so totals stay below 2^32."
  pub demand_small : (i : ℕ) → demand a i < 2 ^ 32
  unfolding demand
  demand_small i = total_small _

  pub supply_small : (i : ℕ) → supply a i < 2 ^ 32
  unfolding supply
  supply_small i = total_small _

  -- and so does either side of a comparison
  pub left_small : (which i : ℕ) → left_side a which i < 2 ^ 32
  left_small which i = side_of (λ x. x < 2 ^ 32) which (demand a i) (supply a i) (demand_small i) (supply_small i)

  pub right_small : (which i : ℕ) → right_side a which i < 2 ^ 32
  right_small which i = side_of (λ x. x < 2 ^ 32) which (supply a i) (demand a i) (supply_small i) (demand_small i)

  pub totals_monotone : Monotone (demand a) (supply a) a.k
  unfolding demand supply
  totals_monotone =
      record {
        demand_falls = λ i j one le most.
            sum_rises (λ b. get_or b.table (j - 1) 0) (λ b. get_or b.table (i - 1) 0) a.bids
            (each_imp (λ b. GoodTable a.k b.table) (λ b. get_or b.table (j - 1) 0 ≤ get_or b.table (i - 1) 0) a.bids
            (λ b G. demand_sinks a.k b.table G (i - 1) (j - 1) (omega arith) (omega arith)) A.tables);
        supply_rises = λ i j one le most.
            sum_rises (λ b. get_or b.table (a.k + i - 1) 0) (λ b. get_or b.table (a.k + j - 1) 0) a.bids
            (each_imp (λ b. GoodTable a.k b.table) (λ b. get_or b.table (a.k + i - 1) 0 ≤ get_or b.table (a.k + j - 1) 0) a.bids
            (λ b G. let d : a.k + i - 1 ≡ a.k + (i - 1) = omega arith in let e : a.k + j - 1 ≡ a.k + (j - 1) = omega arith in
            rw (d, e) (supply_climbs a.k b.table G (i - 1) (j - 1) (omega arith) (omega arith))) A.tables);
      }

-- ---- a bid with its coins

pub record GoodBid (k t : ℕ) (b : DrawnBid) : Type 0 where
  pub table : GoodTable k b.0.table
  pub many : length b.1 ≡ 2 * k
  pub groups : Each (Group p t) b.1

pub bids_good : (k t : ℕ) (bids : List Bid) (coins : List (List (List ℕ))) → Each (λ b. GoodTable k b.table) bids
    → Each (λ groups. (length groups ≡ 2 * k) × Each (Group p t) groups) coins → Each (GoodBid k t) (zip bids coins)
unfolding zip zip_with
bids_good k t [] coins h g = tt
bids_good k t (x ∷ bids) [] h g = tt
bids_good k t (x ∷ bids) (y ∷ coins) h g =
    (record { table = h.0; many = g.0.0; groups = g.0.1 }, bids_good k t bids coins h.1 g.1)

-- ---- the polynomials of a bid, and of sums

pub length_entries : (table : List ℕ) (groups : List (List ℕ)) → length groups ≡ length table → length (entries table groups) ≡ length table
unfolding entries
length_entries [] gs l = refl
length_entries (x ∷ xs) [] l = absurd (omega arith)
length_entries (x ∷ xs) (g ∷ gs) l = ap suc (length_entries xs gs (suc_inj l))

pub secret_entries : (table : List ℕ) (groups : List (List ℕ)) (i : ℕ) → length groups ≡ length table → secret (get_or (entries table groups) i []) ≡ get_or table i 0
unfolding entries
secret_entries [] gs i l = refl
secret_entries (x ∷ xs) [] i l = absurd (omega arith)
secret_entries (x ∷ xs) (g ∷ gs) zero l = refl
secret_entries (x ∷ xs) (g ∷ gs) (suc i) l = secret_entries xs gs i (suc_inj l)

pub entries_shared : (t : ℕ) (table : List ℕ) (groups : List (List ℕ)) → every (λ a. leb a most) table ≡ true → Each (Group p t) groups
    → Each (Shared p t) (entries table groups)
unfolding entries every
entries_shared t [] gs e h = tt
entries_shared t (x ∷ xs) [] e h = tt
entries_shared t (x ∷ xs) (g ∷ gs) e h = (
  shared_cons x g (omega (arith, leb-true x most (and_left (leb x most) (every (λ a. leb a most) xs) e))) h.0,
  entries_shared t xs gs (and_right (leb x most) (every (λ a. leb a most) xs) e) h.1,
)

pub shared_sums : (t : ℕ) (f g : List ℕ) → Shared p t f → Shared p t g → Shared p t (sums amounts f g)
shared_sums t f g hf hg = (sums_length amount_field f g (hf.0 ∙ sym hg.0) ∙ hf.0, sums_lt amount_field f g hf.1 hg.1)

pub secret_sums : (t : ℕ) (f g : List ℕ) → Shared p t f → Shared p t g → secret (sums amounts f g) ≡ (secret f + secret g) % p
unfolding sums
secret_sums t [] g hf hg = absurd (omega (arith, hf.0))
secret_sums t (x ∷ f) [] hf hg = absurd (omega (arith, hg.0))
secret_sums t (x ∷ f) (y ∷ g) hf hg = refl

pub length_added : (fs gs : List (List ℕ)) → length gs ≡ length fs → length (added_polynomials fs gs) ≡ length fs
unfolding added_polynomials
length_added [] gs l = refl
length_added (f ∷ fs) [] l = absurd (omega arith)
length_added (f ∷ fs) (g ∷ gs) l = ap suc (length_added fs gs (suc_inj l))

pub added_shared : (t : ℕ) (fs gs : List (List ℕ)) → Each (Shared p t) fs → Each (Shared p t) gs → Each (Shared p t) (added_polynomials fs gs)
unfolding added_polynomials
added_shared t [] gs hf hg = tt
added_shared t (f ∷ fs) [] hf hg = tt
added_shared t (f ∷ fs) (g ∷ gs) hf hg = (shared_sums t f g hf.0 hg.0, added_shared t fs gs hf.1 hg.1)

pub secret_added : (t : ℕ) (fs gs : List (List ℕ)) (i : ℕ) → Each (Shared p t) fs → Each (Shared p t) gs → length gs ≡ length fs → i < length fs
    → secret (get_or (added_polynomials fs gs) i []) ≡ (secret (get_or fs i []) + secret (get_or gs i [])) % p
unfolding added_polynomials
secret_added t [] gs i hf hg l h = absurd (omega arith)
secret_added t (f ∷ fs) [] i hf hg l h = absurd (omega arith)
secret_added t (f ∷ fs) (g ∷ gs) zero hf hg l h = secret_sums t f g hf.0 hg.0
secret_added t (f ∷ fs) (g ∷ gs) (suc i) hf hg l h = secret_added t fs gs i hf.1 hg.1 (suc_inj l) (le_of_suc-le-suc h)

-- ---- the polynomials of totals

module _ (k t : ℕ) where
  -- 2k polynomials of degree at most t
  pub record Held (fs : List (List ℕ)) : Type 0 where
    pub many : length fs ≡ 2 * k
    pub shared : Each (Shared p t) fs

  pub entries_held : (b : DrawnBid) → GoodBid k t b → Held (entries b.0.table b.1)
  entries_held b B =
      record {
        many = length_entries b.0.table b.1 (B.many ∙ sym B.table.long) ∙ B.table.long;
        shared = entries_shared t b.0.table b.1 B.table.small B.groups;
      }

  pub added_held : (fs gs : List (List ℕ)) → Held fs → Held gs → Held (added_polynomials fs gs)
  added_held fs gs F G =
      record {
        many = length_added fs gs (G.many ∙ sym F.many) ∙ F.many;
        shared = added_shared t fs gs F.shared G.shared;
      }

  pub no_totals_held : Held (replicate (2 * k) (replicate (suc t) 0))
  no_totals_held =
      record {
        many = length-replicate (2 * k) (replicate (suc t) 0);
        shared = each_replicate (Shared p t) (2 * k) (replicate (suc t) 0) (zeros_group p (suc t) (lit< tt));
      }

  pub totals_held : (bs : List DrawnBid) (fs : List (List ℕ)) → Each (GoodBid k t) bs → Held fs → Held (totals_after bs fs)
  unfolding totals_after
  totals_held [] fs B F = F
  totals_held (b ∷ bs) fs B F =
      totals_held bs (added_polynomials fs (entries b.0.table b.1)) B.1 (added_held fs (entries b.0.table b.1) F (entries_held b B.0))

  -- one bid more
  secret_more : (b : DrawnBid) (fs : List (List ℕ)) (i : ℕ) → GoodBid k t b → Held fs → i < 2 * k → secret (get_or fs i []) + most < p
      → secret (get_or (added_polynomials fs (entries b.0.table b.1)) i []) ≡ secret (get_or fs i []) + get_or b.0.table i 0
  secret_more b fs i B F l h =
      let E : Held (entries b.0.table b.1) = entries_held b B in
      secret_added t fs (entries b.0.table b.1) i F.shared E.shared (E.many ∙ sym F.many) (omega (arith, F.many))
      ∙ ap (λ (z : ℕ). (secret (get_or fs i []) + z) % p) (secret_entries b.0.table b.1 i (B.many ∙ sym B.table.long))
      ∙ mod-eq_of_lt (omega (arith, amount_most k b.0.table B.table i))

  secret_totals : (bs : List DrawnBid) (fs : List (List ℕ)) (i : ℕ) → Each (GoodBid k t) bs → Held fs → i < 2 * k
      → secret (get_or fs i []) + length bs * most < p
      → secret (get_or (totals_after bs fs) i []) ≡ secret (get_or fs i []) + sum (map (λ b. get_or b.0.table i 0) bs)
  unfolding totals_after sum
  secret_totals [] fs i B F l h = omega arith
  secret_totals (b ∷ bs) fs i B F l h =
      let e : secret (get_or (added_polynomials fs (entries b.0.table b.1)) i []) ≡ secret (get_or fs i []) + get_or b.0.table i 0 =
      secret_more b fs i B.0 F l (omega arith) in
      secret_totals bs (added_polynomials fs (entries b.0.table b.1)) i B.1 (added_held fs (entries b.0.table b.1) F (entries_held b B.0)) l
      (omega (arith, amount_most k b.0.table B.0.table i))
      ∙ omega arith

module _ {a : Auction} {c : Coins} (A : IsAuction a) (C : InRange a c) where
  -- each bid, with the coins that are drawn for it
  pub all_good : Each (GoodBid a.k (threshold a.n)) (zip a.bids c.bids)
  all_good = bids_good a.k (threshold a.n) a.bids c.bids A.tables C.bids

  pub polynomials_held : Held a.k (threshold a.n) (polynomials a c)
  unfolding polynomials
  polynomials_held = totals_held a.k (threshold a.n) (zip a.bids c.bids) (no_totals a) all_good (no_totals_held a.k (threshold a.n))

  pub polynomials_length : length (polynomials a c) ≡ 2 * a.k
  polynomials_length = polynomials_held.many

  pub polynomial_shared : (i : ℕ) → i < 2 * a.k → Shared p (threshold a.n) (get_or (polynomials a c) i [])
  polynomial_shared i l =
      each_at (Shared p (threshold a.n)) (polynomials a c) i [] polynomials_held.shared (omega (arith, polynomials_length))

  secret_at : (i : ℕ) → i < 2 * a.k → secret (get_or (polynomials a c) i []) ≡ sum (map (λ b. get_or b.table i 0) a.bids)
  unfolding polynomials
  secret_at i l =
      let e : secret (get_or (no_totals a) i []) ≡ 0 = ap secret (get_or-replicate (2 * a.k) i (replicate (suc (threshold a.n)) 0) [] l) in
      secret_totals a.k (threshold a.n) (zip a.bids c.bids) (no_totals a) i all_good (no_totals_held a.k (threshold a.n)) l
      (omega (arith, few_bids A, length_zip a.bids c.bids C.bids_many))
      ∙ ap₂ ◌+◌ e (ap sum (map_zip (λ b. get_or b.table i 0) a.bids c.bids C.bids_many))
      ∙ omega arith

  -- the totals are the bids' amounts, "added in tenths unrounded"
  pub demand_secret : (i : ℕ) → 1 ≤ i → i ≤ a.k → secret (get_or (polynomials a c) (i - 1) []) ≡ demand a i
  unfolding demand
  demand_secret i l h = secret_at (i - 1) (omega arith)

  pub supply_secret : (i : ℕ) → 1 ≤ i → i ≤ a.k → secret (get_or (polynomials a c) (a.k + i - 1) []) ≡ supply a i
  unfolding supply
  supply_secret i l h = secret_at (a.k + i - 1) (omega arith)
