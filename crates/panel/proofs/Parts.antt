-- Parts of a flat list, and lists that a loop over all parties fills. Assumes nothing.
use mathlib.Core.Path.{◌≡◌, refl, sym, ap, ap₂, ◌∙◌}
use mathlib.Core.List.{List, [], ◌∷◌, ◌++◌, map}
use mathlib.Core.Logic.{⊎_elim}
use Prim.Native.Nat.{ℕ, zero, suc, ◌+◌, ◌-◌, ◌*◌, ◌≤◌, ◌<◌}
use native.Mathlib.Nat.{mul-le-mul_right, eq-or-lt_of_le, zero-mul}
use native.Mathlib.Decide.{dec_le}
use native.Mathlib.Omega.{arith}
use lib.ListN.{length, take, drop, set, get_or, replicate, length-drop, length-set, length-append, take-append-drop}
use lib.Seq.{length-take-le, take-append-le, drop-append-le, take_at, drop_at, drop-drop, get_or-set_same, get_or-set_other}
use borrow.Rule.Slice.PartMut.{put_mid, same_len_mid, drop_put}
use Rattle.ranges.specs.Lists.{from}
use Rattle.search.specs.Limit.{most_probes}
use Rattle.search.proofs.Logarithm.{limit_least}
use Rattle.auction.specs.Coins.{flat}
use Rattle.panel.specs.Parties.{All, part}

-- room for one part more
pub room : (w n j : ℕ) → j < n → j * w + w ≤ n * w
room w n j h = let r : (j + 1) * w ≤ n * w = mul-le-mul_right w (omega arith) in omega arith

pub part_length : (w n i : ℕ) (xs : List ℕ) → length xs ≡ n * w → i < n → length (part w i xs) ≡ w
unfolding part
part_length w n i xs l h = length-take-le w (drop (i * w) xs) (omega (arith, length-drop (i * w) xs, room w n i h))

-- ---- a part is put in the place of another

module _ (w n j : ℕ) (xs v : List ℕ) (long : length xs ≡ n * w) (h : j < n) (lv : length v ≡ w) where
  abbrev put : List ℕ
  put = put_mid (j * w) w xs v

  fits : j * w + w ≤ length xs
  fits = omega (arith, room w n j h)

  before : length (take (j * w) xs) ≡ j * w
  before = length-take-le (j * w) xs (omega (arith, fits))

  pub put_length : length put ≡ length xs
  put_length =
      same_len_mid (j * w) w xs v (lv ∙ sym (length-take-le w (drop (j * w) xs) (omega (arith, fits, length-drop (j * w) xs))))

  pub put_here : part w j put ≡ v
  unfolding part
  put_here = ap (take w) (drop_at (take (j * w) xs) _ (j * w) before) ∙ take_at v _ w lv

  -- parts before it
  front : (i : ℕ) (ys : List ℕ) → i < j → part w i (take (j * w) xs ++ ys) ≡ part w i (take (j * w) xs)
  unfolding part
  front i ys l =
      let r = room w j i l in
      ap (take w) (drop-append-le (i * w) (take (j * w) xs) ys (omega (arith, before)))
      ∙ take-append-le w (drop (i * w) (take (j * w) xs)) ys (omega (arith, before, length-drop (i * w) (take (j * w) xs)))

  put_before : (i : ℕ) → i < j → part w i put ≡ part w i xs
  put_before i l = front i _ l ∙ sym (front i (drop (j * w) xs) l) ∙ ap (part w i) (take-append-drop (j * w) xs)

  -- parts after it
  put_after : (i : ℕ) → j < i → part w i put ≡ part w i xs
  unfolding part
  put_after i l =
      let r = room w i j l in
      let e : i * w ≡ j * w + w + (i * w - (j * w + w)) = omega arith in
      let k : j * w + w - j * w ≡ w = omega arith in
      let d : drop (j * w + w) put ≡ drop (j * w + w) xs =
      ap (λ (z : ℕ). drop (j * w + w) (put_mid (j * w) z xs v)) (sym k)
      ∙ drop_put (j * w) (j * w + w) xs v (omega arith) fits (omega (arith, lv)) in
      ap (λ (z : ℕ). take w (drop z put)) e
      ∙ ap (take w) (sym (drop-drop (i * w - (j * w + w)) (j * w + w) put) ∙ ap (drop (i * w - (j * w + w))) d ∙ drop-drop (i * w - (j * w + w)) (j * w + w) xs)
      ∙ ap (λ (z : ℕ). take w (drop z xs)) (sym e)

  pub put_other : (i : ℕ) → (i ≡ j → ⊥) → part w i put ≡ part w i xs
  put_other i d =
      elim (dec_le i j) [
        | yes le ↦ put_before i (⊎_elim (λ e. absurd (d e)) (λ l. l) (eq-or-lt_of_le le))
        | no gt ↦ put_after i (omega arith)
      ]

-- ---- a loop that writes part after part

pub record Spread (w n : ℕ) (f : ℕ → List ℕ) (old xs : List ℕ) (j : ℕ) : Type 0 where
  pub long : length xs ≡ length old
  pub done : (i : ℕ) → i < j → part w i xs ≡ f i
  pub left : (i : ℕ) → j ≤ i → i < n → part w i xs ≡ part w i old

pub spread_start : (w n : ℕ) (f : ℕ → List ℕ) (old : List ℕ) → Spread w n f old old 0
spread_start w n f old = record { long = refl; done = λ i h. absurd (omega arith); left = λ i h l. refl }

-- what is written is what should be where it is made of the old part
pub spread_more : (w n : ℕ) (f : ℕ → List ℕ) (old xs : List ℕ) (j at k : ℕ) (v : List ℕ) → Spread w n f old xs j → length old ≡ n * w → j < n → at ≡ j * w → k ≡ w
    → length v ≡ length (take k (drop at xs)) → v ≡ f j → Spread w n f old (put_mid at k xs v) (j + 1)
spread_more w n f old xs j at k v S long h ea ek l e =
    let lx : length xs ≡ n * w = S.long ∙ long in
    let lv : length v ≡ w =
    l ∙ ap₂ (λ (u v : ℕ). length (take u (drop v xs))) ek ea
    ∙ length-take-le w (drop (j * w) xs) (omega (arith, room w n j h, length-drop (j * w) xs)) in
    rw (ea, ek)
    (record {
      long = put_length w n j xs v lx h lv ∙ S.long;
      done = λ i l.
          elim (dec_le j i) [
            | yes le ↦ let s : i ≡ j = omega arith in rw s (put_here w n j xs v lx h lv ∙ e)
            | no gt ↦ put_other w n j xs v lx h lv i (λ s. omega arith) ∙ S.done i (omega arith)
          ];
      left = λ i l m. put_other w n j xs v lx h lv i (λ s. omega arith) ∙ S.left i (omega arith) m;
    })

-- the part that is lent
pub lent : (w n : ℕ) (f : ℕ → List ℕ) (old xs : List ℕ) (j at k : ℕ) → Spread w n f old xs j → j < n → at ≡ j * w → k ≡ w → take k (drop at xs) ≡ part w j old
unfolding part
lent w n f old xs j at k S h ea ek = ap₂ (λ (u v : ℕ). take u (drop v xs)) ek ea ∙ S.left j (omega arith) h

-- ---- a loop that reads and writes element after element

-- an element that is there, whatever stands past the end
pub getD_there : {A : Type 0} (xs : List A) (i : ℕ) (d e : A) → i < length xs → get_or xs i d ≡ get_or xs i e
getD_there [] i d e h = absurd (omega arith)
getD_there (x ∷ xs) zero d e h = refl
getD_there (x ∷ xs) (suc i) d e h = getD_there xs i d e (omega arith)

pub record Rowed {A : Type 0} (d : A) (n : ℕ) (f : ℕ → A) (old xs : List A) (j : ℕ) : Type 0 where
  pub long : length xs ≡ length old
  pub done : (i : ℕ) → i < j → get_or xs i d ≡ f i
  pub left : (i : ℕ) → j ≤ i → get_or xs i d ≡ get_or old i d

module _ {A : Type 0} (d : A) (n : ℕ) (f : ℕ → A) (old : List A) where
  pub rowed_start : Rowed d n f old old 0
  rowed_start = record { long = refl; done = λ i h. absurd (omega arith); left = λ i h. refl }

  pub rowed_more : (xs : List A) (j : ℕ) (v : A) → Rowed d n f old xs j → j < length old → v ≡ f j → Rowed d n f old (set xs j v) (j + 1)
  rowed_more xs j v R h e =
      record {
        long = length-set xs j v ∙ R.long;
        done = λ i l.
            elim (dec_le j i) [
              | yes le ↦ let s : i ≡ j = omega arith in rw s (get_or-set_same xs j v d (omega (arith, R.long)) ∙ e)
              | no gt ↦ get_or-set_other xs j i v d (λ s. omega arith) ∙ R.done i (omega arith)
            ];
        left = λ i l. get_or-set_other xs j i v d (λ s. omega arith) ∙ R.left i (omega arith);
      }

-- the part of a slice that is lent to be read
pub part_read : (w i at k : ℕ) (xs : List ℕ) → at ≡ i * w → k ≡ w → take k (drop at xs) ≡ part w i xs
unfolding part
part_read w i at k xs ea ek = ap₂ (λ (u v : ℕ). take u (drop v xs)) ek ea

-- what all parts are, one after another, the whole is
parts_from : (w a m : ℕ) (f : ℕ → List ℕ) (xs : List ℕ) → length xs ≡ m * w → All m (λ i. part w i xs ≡ f (a + i)) → xs ≡ flat (map f (from a m))
unfolding part flat from
parts_from w a zero f [] l e = refl
parts_from w a zero f (x ∷ xs) l e = absurd (omega arith)
parts_from w a (suc m) f xs l e =
    let first : take w xs ≡ f a = ap (λ (k : ℕ). take w (drop k xs)) (sym (zero-mul w)) ∙ e 0 (omega arith) ∙ ap f (omega arith) in
    sym (take-append-drop w xs)
    ∙ ap₂ ◌++◌ first
    (parts_from w (suc a) m f (drop w xs) (length-drop w xs ∙ omega arith)
    (λ i h.
    let k : w + i * w ≡ suc i * w = omega arith in
    ap (take w) (drop-drop (i * w) w xs ∙ ap (λ (k : ℕ). drop k xs) k) ∙ e (suc i) (omega arith) ∙ ap f (omega arith)))

pub parts_flat : (w n : ℕ) (f : ℕ → List ℕ) (xs : List ℕ) → length xs ≡ n * w → All n (λ i. part w i xs ≡ f i) → xs ≡ flat (map f (from 0 n))
parts_flat w n f xs l e = parts_from w 0 n f xs l (λ i h. e i h ∙ ap f (omega arith))

-- a part of one word of a list of one number
pub one_part : (n i x : ℕ) → i < n → part 1 i (replicate n x) ≡ x ∷ []
unfolding part
one_part zero i x h = absurd (omega arith)
one_part (suc n) zero x h = refl
one_part (suc n) (suc i) x h =
    let k : suc i * 1 ≡ suc (i * 1) = omega arith in
    ap (λ (k : ℕ). take 1 (drop k (replicate (suc n) x))) k ∙ one_part n i x (omega arith)

pub sheets_eighteen : (k : ℕ) → k ≤ 256 → most_probes k ≤ 18
unfolding most_probes
sheets_eighteen k h = omega (arith, limit_least k 9 (omega arith))

-- the front of an array is lent, written and lent again
module _ (m : ℕ) (xs v : List ℕ) (h : m ≤ length xs) (l : length v ≡ length (take m xs)) where
  prefix_length : length v ≡ m
  prefix_length = l ∙ length-take-le m xs h

  pub prefix_fits : m ≤ length (v ++ drop m xs)
  prefix_fits = omega (arith, length-append v (drop m xs), prefix_length)

  pub prefix_is : take m (v ++ drop m xs) ≡ v
  prefix_is = take_at v (drop m xs) m prefix_length

  pub prefix_count : m ≡ length (take m (v ++ drop m xs))
  prefix_count = sym (ap length prefix_is ∙ prefix_length)

pub take_replicate : {A : Type 0} (m n : ℕ) (x : A) → m ≤ n → take m (replicate n x) ≡ replicate m x
take_replicate zero n x h = refl
take_replicate (suc m) zero x h = absurd (omega arith)
take_replicate (suc m) (suc n) x h = ap (λ (l : List _). x ∷ l) (take_replicate m n x (omega arith))
