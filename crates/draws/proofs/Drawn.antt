-- The draws are in their ranges, and in groups they are the coins of an auction. Assumes nothing.
use mathlib.Core.Path.{◌≡◌, refl, sym, ap, ap₂, ◌∙◌}
use mathlib.Core.Bool.{Bool, true, false, cond, not, true≢false}
use mathlib.Core.List.{List, [], ◌∷◌, ◌++◌, map, append_assoc, append-nil}
use Prim.Native.Nat.{ℕ, zero, suc, ◌+◌, ◌-◌, ◌*◌, ◌/◌, ◌%◌, ◌^◌, ◌≤◌, ◌<◌}
use native.Mathlib.Nat.{mod-lt, sub-zero, zero-add, suc-add, zero-mul}
use native.Mathlib.Numerals.{add-one}
use native.Mathlib.Decide.{dec_le}
use native.Mathlib.Omega.{arith}
use lib.Bits.{xor_lt}
use lib.Dec.{T, eqb, eqb→eq, lit<}
use lib.ListN.{length, take, set, length-set}
use lib.Seq.{take_all, take-suc-set}
use borrow.Author.Tests.{eq-eqb, ne_eqb}
use Rattle.fields.specs.Amount.{p}
use Rattle.ranges.specs.Below.{AllBelow}
use Rattle.fields.proofs.Test.{below, at}
use Rattle.sharing.specs.Scheme.{threshold}
use Rattle.search.specs.Limit.{most_probes}
use Rattle.ways.specs.Way.{way_of, triples_of}
use Rattle.comparison.specs.Probe.{SheetInRange, Group, Each, TripleInRange}
use Rattle.auction.specs.Auction.{Auction}
use Rattle.auction.specs.Coins.{InRange, flat, coin_words, triple_bytes, coin_bytes}
use Rattle.draws.specs.Draws.{xor_up, xor_down, next, first_state, next_coin, later, drawn, groups, bid_coins, after_bids, last_rehearsed, triple_coins, all_triples, sheet_coins, after_sheet, all_sheets, auction_coins}

-- ---- lists of draws

module _ (step : ℕ → ℕ) (size : ℕ) where
  pub drawn_length : (m x : ℕ) → length (drawn step size m x) ≡ m
  unfolding drawn
  drawn_length zero x = refl
  drawn_length (suc m) x = ap suc (drawn_length m (step x))

  pub later_more : (a b x : ℕ) → later step (a + b) x ≡ later step b (later step a x)
  unfolding later
  later_more zero b x = rw zero-add
  later_more (suc a) b x = rw suc-add (later_more a b (step x))

  pub drawn_more : (a b x : ℕ) → drawn step size (a + b) x ≡ drawn step size a x ++ drawn step size b (later step a x)
  unfolding drawn later
  drawn_more zero b x = rw zero-add
  drawn_more (suc a) b x = rw suc-add (ap (λ (l : List ℕ). step x % size ∷ l) (drawn_more a b (step x)))

  pub groups_length : (t m x : ℕ) → length (groups step size t m x) ≡ m
  unfolding groups
  groups_length t zero x = refl
  groups_length t (suc m) x = ap suc (groups_length t m (later step t x))

  -- groups are drawn one after the other
  pub groups_flat : (t m x : ℕ) → flat (groups step size t m x) ≡ drawn step size (m * t) x
  unfolding groups flat drawn
  groups_flat t zero x = rw zero-mul
  groups_flat t (suc m) x =
      let e : suc m * t ≡ t + m * t = omega arith in
      rw e (ap (λ (l : List ℕ). drawn step size t x ++ l) (groups_flat t m (later step t x)) ∙ sym (drawn_more t (m * t) x))

  -- a slice that is filled with m draws from x₀ on: i places are filled, and the others are still to be drawn from x on
  pub record Filling (m x₀ : ℕ) (xs : List ℕ) (i x : ℕ) : Type 0 where
    pub inside : i ≤ m
    pub long : length xs ≡ m
    pub filled : take i xs ++ drawn step size (m - i) x ≡ drawn step size m x₀
    pub left : later step (m - i) x ≡ later step m x₀

  pub filling_start : (xs : List ℕ) (x : ℕ) → Filling (length xs) x xs 0 x
  filling_start xs x =
      record {
        inside = omega arith;
        long = refl;
        filled = ap (λ (k : ℕ). drawn step size k x) (sub-zero (length xs));
        left = ap (λ (k : ℕ). later step k x) (sub-zero (length xs));
      }

  pub filling_more : (m x₀ : ℕ) (xs : List ℕ) (i x v : ℕ) → Filling m x₀ xs i x → i < m → v ≡ step x → Filling m x₀ (set xs i (v % size)) (i + 1) v
  unfolding drawn later
  filling_more m x₀ xs i x v F h e =
      let n : m - i ≡ suc (m - (i + 1)) = omega arith in
      rw e
      (record {
        inside = omega arith;
        long = length-set xs i (step x % size) ∙ F.long;
        filled =
            ap (λ (k : ℕ). take k (set xs i (step x % size)) ++ drawn step size (m - (i + 1)) (step x)) (add-one i)
            ∙ ap (λ (l : List ℕ). l ++ drawn step size (m - (i + 1)) (step x)) (take-suc-set xs i (step x % size) (omega (arith, F.long)))
            ∙ append_assoc (take i xs) (step x % size ∷ []) (drawn step size (m - (i + 1)) (step x))
            ∙ ap (λ (k : ℕ). take i xs ++ drawn step size k x) (sym n)
            ∙ F.filled;
        left = ap (λ (k : ℕ). later step k x) (sym n) ∙ F.left;
      })

  pub filling_end : (m x₀ : ℕ) (xs : List ℕ) (i x : ℕ) → Filling m x₀ xs i x → m ≤ i → (xs ≡ drawn step size m x₀) × (x ≡ later step m x₀)
  unfolding drawn later
  filling_end m x₀ xs i x F h =
      let z : m - i ≡ 0 = omega arith in (
        sym (append-nil xs)
            ∙ ap₂ (λ (a b : List ℕ). a ++ b) (sym (take_all i xs (omega (arith, F.long)))) (ap (λ (k : ℕ). drawn step size k x) (sym z))
            ∙ F.filled,
        ap (λ (k : ℕ). later step k x) (sym z) ∙ F.left,
      )

  -- what holds of the states and makes each draw small, makes all of them small
  module _ (P : ℕ → Type 0) (bound : ℕ) (stays : (x : ℕ) → P x → P (step x)) (small : (x : ℕ) → P x → step x % size < bound) where
    pub later_stays : (m x : ℕ) → P x → P (later step m x)
    unfolding later
    later_stays zero x h = h
    later_stays (suc m) x h = later_stays m (step x) (stays x h)

    pub drawn_below : (m x : ℕ) → P x → AllBelow bound (drawn step size m x)
    unfolding drawn
    drawn_below zero x h = tt
    drawn_below (suc m) x h = (small x h, drawn_below m (step x) (stays x h))

    pub groups_below : (t m x : ℕ) → P x → Each (Group bound t) (groups step size t m x)
    unfolding groups
    groups_below t zero x h = tt
    groups_below t (suc m) x h = ((drawn_length t x, drawn_below t x h), groups_below t m (later step t x) (later_stays t x h))

-- ---- states

up_below : (bits x : ℕ) → x < 2 ^ 64 → xor_up bits x < 2 ^ 64
up_below bits x h = xor_lt 64 x (x * 2 ^ bits % 2 ^ 64) h (mod-lt _ (lit< tt))

down_below : (x : ℕ) → x < 2 ^ 64 → xor_down 7 x < 2 ^ 64
down_below x h = xor_lt 64 x (x / 2 ^ 7) h (omega arith)

pub next_below : (x : ℕ) → x < 2 ^ 64 → next x < 2 ^ 64
unfolding next
next_below x h = up_below 17 (xor_down 7 (xor_up 13 x)) (down_below (xor_up 13 x) (up_below 13 x h))

-- the eight states whose low 61 bits are p: the next draw is not p again
not_twice : T (below (λ h. not (eqb (next (h * 2 ^ 61 + p) % 2 ^ 61) p)) 8)
unfolding next
not_twice = tt

-- the state after the draw d
abbrev skipping : ℕ → ℕ
skipping d = cond (eqb (d % 2 ^ 61) p) (next d) d

pub next_coin_skips : (x d : ℕ) → d ≡ next x → d % 2 ^ 61 ≡ p → next d ≡ next_coin x
unfolding next_coin
next_coin_skips x d e h = sym (skips h) ∙ ap skipping e
  where
    skips : d % 2 ^ 61 ≡ p → skipping d ≡ next d
    skips h = rw (eq-eqb (d % 2 ^ 61) p h)

pub next_coin_takes : (x d : ℕ) → d ≡ next x → (d % 2 ^ 61 ≡ p → ⊥) → d ≡ next_coin x
unfolding next_coin
next_coin_takes x d e h = sym (takes h) ∙ ap skipping e
  where
    takes : (d % 2 ^ 61 ≡ p → ⊥) → skipping d ≡ d
    takes h = rw (ne_eqb (d % 2 ^ 61) p h)

pub next_coin_below : (x : ℕ) → x < 2 ^ 64 → next_coin x < 2 ^ 64
unfolding next_coin
next_coin_below x h = split (eqb (next x % 2 ^ 61) p)
  where
    split : (t : Bool) → cond t (next (next x)) (next x) < 2 ^ 64
    split true = next_below (next x) (next_below x h)
    split false = next_below x h

-- a coefficient is below p
not_p : (y : ℕ) → (y % 2 ^ 61 ≡ p → ⊥) → y % 2 ^ 61 < p
not_p y h = elim (dec_le p (y % 2 ^ 61)) [ yes le ↦ absurd (h (omega arith)) | no gt ↦ omega arith ]

after_p : (y : ℕ) → y < 2 ^ 64 → y % 2 ^ 61 ≡ p → next y % 2 ^ 61 ≡ p → ⊥
after_p y h e f =
    let s : y / 2 ^ 61 * 2 ^ 61 + p ≡ y = omega arith in
    let t = at (λ h. not (eqb (next (h * 2 ^ 61 + p) % 2 ^ 61) p)) 8 not_twice (y / 2 ^ 61) (omega arith) in
    rw (s, eq-eqb (next y % 2 ^ 61) p f) at t

pub coin_below : (x : ℕ) → x < 2 ^ 64 → next_coin x % 2 ^ 61 < p
unfolding next_coin
coin_below x h = split (eqb (next x % 2 ^ 61) p) refl
  where
    split : (t : Bool) → eqb (next x % 2 ^ 61) p ≡ t → cond t (next (next x)) (next x) % 2 ^ 61 < p
    split true e = not_p (next (next x)) (after_p (next x) (next_below x h) (eqb→eq _ p (rw e tt)))
    split false e = not_p (next x) (λ f. true≢false (sym (eq-eqb _ p f) ∙ e))

-- ---- a word of 64 bits stays one

abbrev pub Word : ℕ → Type 0
Word x = x < 2 ^ 64

pub first_word : (x : ℕ) → Word x → Word (first_state x)
unfolding first_state
first_word x h = split (eqb x 0)
  where
    split : (t : Bool) → cond t 1 x < 2 ^ 64
    split true = omega arith
    split false = h

pub coins_word : (m x : ℕ) → Word x → Word (later next_coin m x)
coins_word m x h = later_stays next_coin (2 ^ 61) Word p next_coin_below coin_below m x h

pub bytes_word : (m x : ℕ) → Word x → Word (later next m x)
bytes_word m x h = later_stays next 256 Word 256 next_below (λ x h. mod-lt (next x) (lit< tt)) m x h

coins_in_range : (t x : ℕ) → Word x → Group p t (drawn next_coin (2 ^ 61) t x)
coins_in_range t x h = (drawn_length next_coin (2 ^ 61) t x, drawn_below next_coin (2 ^ 61) Word p next_coin_below coin_below t x h)

bytes_in_range : (t x : ℕ) → Word x → Group 256 t (drawn next 256 t x)
bytes_in_range t x h = (drawn_length next 256 t x, drawn_below next 256 Word 256 next_below (λ x h. mod-lt (next x) (lit< tt)) t x h)

-- ---- the coins of the bids

pub bid_coins_length : (t k m x : ℕ) → length (bid_coins t k m x) ≡ m
unfolding bid_coins
bid_coins_length t k zero x = refl
bid_coins_length t k (suc m) x = ap suc (bid_coins_length t k m (later next_coin (2 * k * t) x))

pub bid_coins_in_range : (t k m x : ℕ) → Word x → Each (λ gs. (length gs ≡ 2 * k) × Each (Group p t) gs) (bid_coins t k m x)
unfolding bid_coins
bid_coins_in_range t k zero x h = tt
bid_coins_in_range t k (suc m) x h = (
  (groups_length next_coin (2 ^ 61) t (2 * k) x, groups_below next_coin (2 ^ 61) Word p next_coin_below coin_below t (2 * k) x h),
  bid_coins_in_range t k m (later next_coin (2 * k * t) x) (coins_word (2 * k * t) x h),
)

pub after_bids_word : (t k m x : ℕ) → Word x → Word (after_bids t k m x)
unfolding after_bids
after_bids_word t k zero x h = h
after_bids_word t k (suc m) x h = after_bids_word t k m (later next_coin (2 * k * t) x) (coins_word (2 * k * t) x h)

-- ---- the coins of a sheet

triple_in_range : (t x : ℕ) → Word x → TripleInRange t (triple_coins t x)
unfolding triple_coins
triple_in_range t x h =
    let y : Word (next (next x)) = next_below (next x) (next_below x h) in
    record {
      alpha = mod-lt _ (lit< tt);
      beta = mod-lt _ (lit< tt);
      of_alpha = bytes_in_range t _ y;
      of_beta = bytes_in_range t _ (bytes_word t _ y);
      of_gamma = bytes_in_range t _ (bytes_word (t + t) _ y);
    }

triples_in_range : (t m x : ℕ) → Word x → Each (TripleInRange t) (all_triples t m x)
unfolding all_triples
triples_in_range t zero x h = tt
triples_in_range t (suc m) x h = (triple_in_range t x h, triples_in_range t m (later next (2 + 3 * t) x) (bytes_word (2 + 3 * t) x h))

triples_length : (t m x : ℕ) → length (all_triples t m x) ≡ m
unfolding all_triples
triples_length t zero x = refl
triples_length t (suc m) x = ap suc (triples_length t m (later next (2 + 3 * t) x))

pub sheet_in_range : (t x : ℕ) → Word x → SheetInRange (way_of last_rehearsed) t (sheet_coins t x)
unfolding sheet_coins way_of triples_of
sheet_in_range t x h =
    let y : Word (later next_coin t (next x)) = coins_word t (next x) (next_below x h) in
    record {
      mask = mod-lt _ (lit< tt);
      of_mask = coins_in_range t (next x) (next_below x h);
      of_bits = groups_below next 256 Word 256 next_below (λ x h. mod-lt (next x) (lit< tt)) t 33 _ y;
      bits_long = groups_length next 256 t 33 _;
      triples = triples_in_range t 31 _ (bytes_word (33 * t) _ y);
      triples_long = triples_length t 31 _;
    }

pub after_sheet_word : (t x : ℕ) → Word x → Word (after_sheet t x)
unfolding after_sheet
after_sheet_word t x h = bytes_word (126 * t + 62) _ (coins_word t (next x) (next_below x h))

pub all_sheets_length : (t m x : ℕ) → length (all_sheets t m x) ≡ m
unfolding all_sheets
all_sheets_length t zero x = refl
all_sheets_length t (suc m) x = ap suc (all_sheets_length t m (after_sheet t x))

pub all_sheets_in_range : (t m x : ℕ) → Word x → Each (SheetInRange (way_of last_rehearsed) t) (all_sheets t m x)
unfolding all_sheets
all_sheets_in_range t zero x h = tt
all_sheets_in_range t (suc m) x h = (sheet_in_range t x h, all_sheets_in_range t m (after_sheet t x) (after_sheet_word t x h))

-- ---- the bytes of a sheet are drawn one after another

-- "alpha, beta and t coefficients each for alpha, beta, gamma"
triple_flat : (t x : ℕ) → triple_bytes (triple_coins t x) ≡ drawn next 256 (2 + 3 * t) x
unfolding triple_coins drawn
triple_flat t x =
    let y = next (next x) in
    let e : 2 + 3 * t ≡ suc (suc (t + (t + t))) = omega arith in
    rw e
    (ap (λ (l : List ℕ). next x % 256 ∷ y % 256 ∷ l)
    (ap (λ (l : List ℕ). drawn next 256 t y ++ l)
    (ap (λ (z : ℕ). drawn next 256 t (later next t y) ++ drawn next 256 t z) (later_more next 256 t t y)
    ∙ sym (drawn_more next 256 t t (later next t y)))
    ∙ sym (drawn_more next 256 t (t + t) y)))

triples_flat : (t m x : ℕ) → flat (map triple_bytes (all_triples t m x)) ≡ drawn next 256 (m * (2 + 3 * t)) x
unfolding all_triples flat drawn
triples_flat t zero x = rw zero-mul
triples_flat t (suc m) x =
    let e : suc m * (2 + 3 * t) ≡ (2 + 3 * t) + m * (2 + 3 * t) = omega arith in
    rw e
    (ap₂ ◌++◌ (triple_flat t x) (triples_flat t m (later next (2 + 3 * t) x)) ∙ sym (drawn_more next 256 (2 + 3 * t) (m * (2 + 3 * t)) x))

pub words_drawn : (t x : ℕ) → coin_words (sheet_coins t x) ≡ next x % 2 ^ 58 ∷ drawn next_coin (2 ^ 61) t (next x)
unfolding sheet_coins
words_drawn t x = refl

pub bytes_drawn : (t x : ℕ) → coin_bytes (sheet_coins t x) ≡ drawn next 256 (126 * t + 62) (later next_coin t (next x))
unfolding sheet_coins coin_bytes
bytes_drawn t x =
    let y = later next_coin t (next x) in
    let e : 126 * t + 62 ≡ 33 * t + 31 * (2 + 3 * t) = omega arith in
    rw e
    (ap₂ ◌++◌ (groups_flat next 256 t 33 y) (triples_flat t 31 (later next (33 * t) y)) ∙ sym (drawn_more next 256 (33 * t) (31 * (2 + 3 * t)) y))

-- ---- a whole auction's coins

pub coins_in_range_of : (a : Auction) (seed : ℕ) → a.last ≡ last_rehearsed → Word seed → InRange a (auction_coins a.n a.k (length a.bids) seed)
unfolding auction_coins
coins_in_range_of a seed e h =
    let t = threshold a.n in
    record {
      bids_many = bid_coins_length t a.k (length a.bids) (first_state seed);
      bids = bid_coins_in_range t a.k (length a.bids) (first_state seed) (first_word seed h);
      sheets_many = all_sheets_length t (most_probes a.k) _;
      sheets = rw e (all_sheets_in_range t (most_probes a.k) _ (after_bids_word t a.k (length a.bids) (first_state seed) (first_word seed h)));
    }
