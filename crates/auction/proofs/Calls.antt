-- Lists of calls: what is read off a list made of parts, and off one call of each party. Assumes nothing.
use mathlib.Core.Path.{◌≡◌, refl, sym, ap, ap₂, ◌∙◌}
use mathlib.Core.Bool.{Bool, true, false, cond, ◌&&◌}
use mathlib.Core.Logic.{◌⊎◌, inl, inr}
use mathlib.Core.List.Memᴰ
use mathlib.Core.List.{List, [], ◌∷◌, ◌++◌, map, flatten, map-map, Memᴰ}
use mathlib.Core.Option.{Option, none, some}
use Prim.Native.Nat.{ℕ, zero, suc, ◌+◌, ◌≤◌, ◌<◌}
use native.Mathlib.Decide.{dec_lt}
use native.Mathlib.Omega.{arith}
use lib.Dec.{eqb}
use borrow.Author.Tests.{eq-eqb, ne_eqb}
use Rattle.ranges.specs.Lists.{from}
use Rattle.sharing.specs.Scheme.{threshold, points}
use Rattle.bid.specs.Entry.{split_entry_left, entry_coins}
use Rattle.ranges.proofs.Loops.{and_left, and_right, and_false, same_from}
use Rattle.comparison.specs.Probe.{Each}
use Rattle.auction.specs.Auction.{Auction}
use Rattle.auction.specs.Desk.{Way, whole, by_entries}
use Rattle.auction.specs.Call.{Call, split_call, split_entry_call, accepted, whose, of_party, given}
use Rattle.auction.specs.Canonical.{zeros, entry_calls, bundle_calls, where_so}
use Rattle.auction.specs.Run.{select, own}
use Rattle.auction.specs.Received.{collect}
use Rattle.auction.specs.Demands.{all_accepted}

-- ---- parts

module _ (test : Call → Bool) where
  pub select_append : (l m : List Call) → select test (l ++ m) ≡ select test l ++ select test m
  unfolding select
  select_append [] m = refl
  select_append (c ∷ l) m = either (test c) (select_append l m)
    where
      either : (b : Bool) → select test (l ++ m) ≡ select test l ++ select test m
          → cond b (given c ∷ select test (l ++ m)) (select test (l ++ m)) ≡ cond b (given c ∷ select test l) (select test l) ++ select test m
      either true e = ap (λ (z : List Call). given c ∷ z) e
      either false e = e

  pub select_taken : (c : Call) (l : List Call) → test c ≡ true → select test (c ∷ l) ≡ given c ∷ select test l
  unfolding select
  select_taken c l e = rw e

  pub select_left : (c : Call) (l : List Call) → test c ≡ false → select test (c ∷ l) ≡ select test l
  unfolding select
  select_left c l e = rw e

pub own_append : (j : ℕ) (l m : List Call) → own j (l ++ m) ≡ own j l ++ own j m
own_append j l m = select_append (λ c. accepted c && of_party j (whose c)) l m

-- one more, as a reader takes it
abbrev pub with_read : {B : Type 0} → Option B → List B → List B
with_read o ys = elim o [ none ↦ ys | some y ↦ y ∷ ys ]

pub read_more : {B : Type 0} (y : B) (o : Option B) (ys : List B) → Memᴰ y ys → Memᴰ y (with_read o ys)
read_more y none ys h = h
read_more y (some z) ys h = Memᴰ.tail h

module _ {A B : Type 0} (f : A → Option B) where
  -- what is read off an entry that is there
  pub read_there : (x : A) (y : B) → f x ≡ some y → (l : List A) → Memᴰ x l → Memᴰ y (collect f l)
  unfolding collect
  read_there x y e [] m = absurd (Memᴰ.not-nil m)
  read_there x y e (z ∷ l) m = go (read_there x y e l) (Memᴰ.cases_cons m)
    where
      go : (Memᴰ x l → Memᴰ y (collect f l)) → (x ≡ z) ⊎ Memᴰ x l → Memᴰ y (with_read (f z) (collect f l))
      go rest (inl g) = rw (ap f (sym g) ∙ e) (Memᴰ.head refl)
      go rest (inr h) = read_more y (f z) (collect f l) (rest h)

  pub collect_append : (l m : List A) → collect f (l ++ m) ≡ collect f l ++ collect f m
  unfolding collect
  collect_append [] m = refl
  collect_append (x ∷ l) m = either (f x) (collect_append l m)
    where
      either : (o : Option B) → collect f (l ++ m) ≡ collect f l ++ collect f m
          → elim o [ none ↦ collect f (l ++ m) | some y ↦ y ∷ collect f (l ++ m) ]
          ≡ elim o [ none ↦ collect f l | some y ↦ y ∷ collect f l ] ++ collect f m
      either none e = e
      either (some y) e = ap (λ (z : List B). y ∷ z) e

  pub collect_none : (x : A) (l : List A) → f x ≡ none → collect f (x ∷ l) ≡ collect f l
  unfolding collect
  collect_none x l e = rw (e, collect)

-- what is read off party j's own calls, of a list made of two parts
pub read_append : {B : Type 0} (f : Call → Option B) (j : ℕ) (l m : List Call) → collect f (own j (l ++ m)) ≡ collect f (own j l) ++ collect f (own j m)
read_append f j l m = ap (collect f) (own_append j l m) ∙ collect_append f (own j l) (own j m)

pub all_accepted_append : (l m : List Call) → all_accepted l ≡ true → all_accepted m ≡ true → all_accepted (l ++ m) ≡ true
unfolding all_accepted
all_accepted_append [] m h k = k
all_accepted_append (c ∷ l) m h k = ap₂ ◌&&◌ (and_left (accepted c) (all_accepted l) h) (all_accepted_append l m (and_right (accepted c) (all_accepted l) h) k)

pub all_accepted_map : {A : Type 0} (f : A → Call) (xs : List A) → Each (λ x. accepted (f x) ≡ true) xs → all_accepted (map f xs) ≡ true
unfolding all_accepted
all_accepted_map f [] h = refl
all_accepted_map f (x ∷ xs) h = ap₂ ◌&&◌ h.0 (all_accepted_map f xs h.1)

-- ---- the parties' points

-- what holds of each party holds of all
pub each_from : (P : ℕ → Type 0) (a m : ℕ) → ((i : ℕ) → a ≤ i → i < a + m → P i) → Each P (from a m)
unfolding from
each_from P a zero h = tt
each_from P a (suc m) h = (h a (omega arith) (omega arith), each_from P (suc a) m (λ i l k. h i (omega arith) (omega arith)))

pub each_point : (P : ℕ → Type 0) (n : ℕ) → ((i : ℕ) → 1 ≤ i → i ≤ n → P i) → Each P (points n)
each_point P n h = each_from P 1 n (λ i l k. h i l (omega arith))

pub map_each : {A B : Type 0} (f g : A → B) (xs : List A) → Each (λ x. f x ≡ g x) xs → map f xs ≡ map g xs
map_each f g [] h = refl
map_each {A} {B} f g (x ∷ xs) h = ap₂ (λ (z : B) (zs : List B). z ∷ zs) h.0 (map_each f g xs h.1)

pub map_points : {B : Type 0} (f g : ℕ → B) (n : ℕ) → ((i : ℕ) → 1 ≤ i → i ≤ n → f i ≡ g i) → map f (points n) ≡ map g (points n)
map_points f g n h = same_from f g 1 n (λ i l k. h i l (omega arith))

-- where each party has something, what is made of it
pub map_through : {A B : Type 0} (g : A → B) (f : ℕ → A) (h : ℕ → B) (n : ℕ) → ((i : ℕ) → 1 ≤ i → i ≤ n → g (f i) ≡ h i)
    → map g (map f (points n)) ≡ map h (points n)
map_through g f h n e = map-map g f (points n) ∙ map_points (λ i. g (f i)) h n e

pub all_accepted_points : (f : ℕ → Call) (n : ℕ) → ((i : ℕ) → 1 ≤ i → i ≤ n → accepted (f i) ≡ true) → all_accepted (map f (points n)) ≡ true
all_accepted_points f n h = all_accepted_map f (points n) (each_point (λ i. accepted (f i) ≡ true) n h)

-- where each party has several calls, all of them
pub all_accepted_flatten : (f : ℕ → List Call) (n : ℕ) → ((i : ℕ) → 1 ≤ i → i ≤ n → all_accepted (f i) ≡ true)
    → all_accepted (flatten (map f (points n))) ≡ true
unfolding all_accepted flatten
all_accepted_flatten f n h = joined (points n) (each_point (λ i. all_accepted (f i) ≡ true) n h)
  where
    joined : (is : List ℕ) → Each (λ i. all_accepted (f i) ≡ true) is → all_accepted (flatten (map f is)) ≡ true
    joined [] e = refl
    joined (i ∷ is) e = all_accepted_append (f i) (flatten (map f is)) e.0 (joined is e.1)

-- ---- one call of each party

-- a party's own call that is accepted
pub record Own (i : ℕ) (c : Call) : Type 0 where
  pub accepted : accepted c ≡ true
  pub whose : (j : ℕ) → of_party j (whose c) ≡ eqb i j

module _ (j : ℕ) where
  pub own_taken : (c : Call) (l : List Call) → Own j c → own j (c ∷ l) ≡ given c ∷ own j l
  own_taken c l h = select_taken (λ c. accepted c && of_party j (whose c)) c l (ap₂ ◌&&◌ h.accepted (h.whose j ∙ eq-eqb j j refl))

  pub own_left : (i : ℕ) (c : Call) (l : List Call) → (i ≡ j → ⊥) → Own i c → own j (c ∷ l) ≡ own j l
  own_left i c l d h = select_left (λ c. accepted c && of_party j (whose c)) c l (ap₂ ◌&&◌ h.accepted (h.whose j ∙ ne_eqb i j d))

-- ---- one call of each party who makes it

-- one for each, as a list of one for each
pub flatten_ones : {A B : Type 0} (f : A → B) (xs : List A) → flatten (map (λ x. f x ∷ []) xs) ≡ map f xs
unfolding flatten
flatten_ones f [] = refl
flatten_ones {B} f (x ∷ xs) = ap (λ (ys : List B). f x ∷ ys) (flatten_ones f xs)

pub all_accepted_made : (made : ℕ → Bool) (f : ℕ → Call) (n : ℕ) → ((i : ℕ) → 1 ≤ i → i ≤ n → Own i (f i))
    → all_accepted (flatten (map (λ i. where_so (made i) (f i)) (points n))) ≡ true
unfolding all_accepted
all_accepted_made made f n h = all_accepted_flatten (λ i. where_so (made i) (f i)) n (λ i l k. one (made i) (f i) (h i l k).accepted)
  where
    one : (b : Bool) (c : Call) → accepted c ≡ true → all_accepted (where_so b c) ≡ true
    one true c e = rw e
    one false c e = refl

module _ (j : ℕ) (made : ℕ → Bool) (f : ℕ → Call) where
  abbrev calls_from : ℕ → ℕ → List Call
  calls_from a m = flatten (map (λ i. where_so (made i) (f i)) (from a m))

  -- another party's call, made or not
  passed_over : (i : ℕ) (b : Bool) (l : List Call) → (i ≡ j → ⊥) → Own i (f i) → own j (where_so b (f i) ++ l) ≡ own j l
  passed_over i true l d h = own_left j i (f i) l d h
  passed_over i false l d h = refl

  made_later : (a m : ℕ) → j < a → ((i : ℕ) → a ≤ i → i < a + m → Own i (f i)) → own j (calls_from a m) ≡ []
  unfolding from flatten select
  made_later a zero l h = refl
  made_later a (suc m) l h =
      passed_over a (made a) (calls_from (suc a) m) (λ e. omega arith) (h a (omega arith) (omega arith))
      ∙ made_later (suc a) m (omega arith) (λ i l k. h i (omega arith) (omega arith))

  taken_here : (b : Bool) (l : List Call) → own j l ≡ [] → Own j (f j) → own j (where_so b (f j) ++ l) ≡ where_so b (given (f j))
  taken_here true l e h = own_taken j (f j) l h ∙ ap (λ (z : List Call). given (f j) ∷ z) e
  taken_here false l e h = e

  made_from : (a m : ℕ) → a ≤ j → j < a + m → ((i : ℕ) → a ≤ i → i < a + m → Own i (f i)) → own j (calls_from a m) ≡ where_so (made j) (given (f j))
  unfolding from flatten
  made_from a zero l k h = absurd (omega arith)
  made_from a (suc m) l k h =
      elim (dec_lt a j) [
        | yes lt ↦
            passed_over a (made a) (calls_from (suc a) m) (λ e. omega arith) (h a (omega arith) (omega arith))
            ∙ made_from (suc a) m (omega arith) (omega arith) (λ i l k. h i (omega arith) (omega arith))
        | no ge ↦ here (omega arith)
      ]
    where
      here : a ≡ j → own j (where_so (made a) (f a) ++ calls_from (suc a) m) ≡ where_so (made j) (given (f j))
      here e =
          ap (λ (i : ℕ). own j (where_so (made i) (f i) ++ calls_from (suc a) m)) e
          ∙ taken_here (made j) (calls_from (suc a) m) (made_later (suc a) m (omega arith) (λ i l k. h i (omega arith) (omega arith))) (h j l k)

-- of one call of each party who makes it, party j's own is its call, if it makes it
pub own_made : (j n : ℕ) (made : ℕ → Bool) (f : ℕ → Call) → 1 ≤ j → j ≤ n → ((i : ℕ) → 1 ≤ i → i ≤ n → Own i (f i))
    → own j (flatten (map (λ i. where_so (made i) (f i)) (points n))) ≡ where_so (made j) (given (f j))
own_made j n made f l k h = made_from j made f 1 n l (omega arith) (λ i l k. h i l (omega arith))

-- and where all make it, its call
pub own_points : (j n : ℕ) (f : ℕ → Call) → 1 ≤ j → j ≤ n → ((i : ℕ) → 1 ≤ i → i ≤ n → Own i (f i)) → own j (map f (points n)) ≡ given (f j) ∷ []
own_points j n f l k h = ap (own j) (sym (flatten_ones f (points n))) ∙ own_made j n (λ i. true) f l k h

pub collect_made : {B : Type 0} (f : Call → Option B) (made : Bool) (c : Call) → collect f (where_so made c) ≡ cond made (collect f (c ∷ [])) []
unfolding collect
collect_made f true c = refl
collect_made f false c = refl

-- ---- calls of no party

own_passed : (j : ℕ) (c : Call) (l : List Call) → of_party j (whose c) ≡ false → own j (c ∷ l) ≡ own j l
own_passed j c l h = select_left (λ c. accepted c && of_party j (whose c)) c l (and_false (accepted c) _ h)

pub own_none : {A : Type 0} (j : ℕ) (f : A → Call) (xs : List A) → ((x : A) → of_party j (whose (f x)) ≡ false) → own j (map f xs) ≡ []
unfolding select
own_none j f [] h = refl
own_none j f (x ∷ xs) h = own_passed j (f x) (map f xs) (h x) ∙ own_none j f xs h

pub own_flatten : {A : Type 0} (j : ℕ) (f : A → List Call) (xs : List A) → ((x : A) → own j (f x) ≡ []) → own j (flatten (map f xs)) ≡ []
unfolding select flatten
own_flatten j f [] h = refl
own_flatten j f (x ∷ xs) h = own_append j (f x) (flatten (map f xs)) ∙ ap₂ ◌++◌ (h x) (own_flatten j f xs h)

-- a bundle is written by nobody's own calls
module _ (a : Auction) (j party : ℕ) (table coins : List ℕ) where
  own_entries : (order lent : List ℕ) → own j (entry_calls a party table coins order lent) ≡ []
  unfolding entry_calls whose of_party select
  own_entries [] lent = refl
  own_entries (e ∷ es) lent =
      let words = entry_coins (threshold a.n) e coins in
      let left = split_entry_left a.n party a.k e table words lent in
      own_passed j (split_entry_call a.n party a.k e table words lent) (entry_calls a party table coins es left) refl ∙ own_entries es left

  pub own_bundle : (way : Way) → own j (bundle_calls a party table coins way) ≡ []
  unfolding bundle_calls whose of_party select
  own_bundle whole = own_passed j (split_call a.n party a.k table coins (zeros a)) [] refl
  own_bundle (by_entries order lent) = own_entries order lent
