-- The end of a long input does not matter: its first 4,194,304 bytes say all that it says. Assumes nothing.
use Rattle.std.specs.Prelude.{Option, None, Some}
use mathlib.Core.Path.{◌≡◌, refl, sym, ap, ◌∙◌}
use mathlib.Core.Bool.{Bool, true, false, cond, ◌&&◌}
use mathlib.Core.Logic.{◌⊎◌, inl, inr, ⊎_elim}
use mathlib.Core.List.{List, [], ◌∷◌}
use Prim.Native.Nat.{ℕ, zero, suc, ◌+◌, ◌-◌, ◌*◌, ◌^◌, ◌≤◌, ◌<◌}
use native.Mathlib.Omega.{arith}
use lib.Dec.{leb, ltb, eqb}
use lib.ListN.{length, take, drop}
use lib.Seq.{take-nil}
use borrow.Author.Tests.{ltb-false, leb-true, eqb-false}
use Rattle.ranges.specs.Lists.{every}
use Rattle.ranges.proofs.Loops.{and_left, and_right}
use Rattle.bid.specs.Table.{most}
use Rattle.refusal.specs.declared.Refusal.{Refusal}
use Rattle.refusal.specs.declared.Refusal.TheVariants.{OutOfRange, TooManyBids, Malformed}
use Rattle.lines.specs.declared.line.Part.{Part}
use Rattle.lines.specs.declared.line.Part.TheVariants.{Empty, Digits, Bad}
use Rattle.sections.specs.declared.table.Fault.{Fault}
use Rattle.decimal.specs.Decimal.{digit}
use Rattle.lines.specs.Lines.{Line, with_digit, grown, ended, lines, line_after, first_line, line_length, rest}
use Rattle.plan.specs.Plan.{Reading, check, needed, many, prices, or_fault, bids, ending, read, read_prices, read_bids}
use Rattle.sections.specs.Sections.{next_price, table_fault}
use Rattle.plan.proofs.Sections.{line_of, needed_number, needed_misshapen, ending_extra}
use Rattle.sections.proofs.Tables.{faultless}

-- ---- a line, cut

-- what is misshapen stays so
misshapen_cut : (part : Part) (bytes : List ℕ) (room : ℕ) → line_after part bytes ≡ None → line_after part (take room bytes) ≡ None
unfolding line_after
misshapen_cut part bytes zero e = refl
misshapen_cut part [] (suc room) e = refl
misshapen_cut part (b ∷ bytes) (suc room) e = cases (eqb b 10) (λ h. misshapen_cut (grown part b) bytes room h) e
  where
    cases : (t : Bool) → (line_after (grown part b) bytes ≡ None → line_after (grown part b) (take room bytes) ≡ None)
        → cond t (ended part) (line_after (grown part b) bytes) ≡ None → cond t (ended part) (line_after (grown part b) (take room bytes)) ≡ None
    cases true go e = e
    cases false go e = go e

-- a line that has room is the same
line_fits : (part : Part) (bytes : List ℕ) (room : ℕ) → line_length bytes ≤ room → line_after part (take room bytes) ≡ line_after part bytes
unfolding line_after line_length
line_fits part [] room h = ap (line_after part) (take-nil room)
line_fits part (b ∷ bytes) zero h = absurd (omega arith)
line_fits part (b ∷ bytes) (suc room) h = cases (eqb b 10) (λ l. line_fits (grown part b) bytes room l) h
  where
    cases : (t : Bool) → (line_length bytes ≤ room → line_after (grown part b) (take room bytes) ≡ line_after (grown part b) bytes)
        → suc (cond t 0 (line_length bytes)) ≤ suc room
        → cond t (ended part) (line_after (grown part b) (take room bytes)) ≡ cond t (ended part) (line_after (grown part b) bytes)
    cases true go h = refl
    cases false go h = go (omega arith)

length_fits : (bytes : List ℕ) (room : ℕ) → line_length bytes ≤ room → line_length (take room bytes) ≡ line_length bytes
unfolding line_length
length_fits [] room h = ap line_length (take-nil room)
length_fits (b ∷ bytes) zero h = absurd (omega arith)
length_fits (b ∷ bytes) (suc room) h = ap suc (cases (eqb b 10) (λ l. length_fits bytes room l) h)
  where
    cases : (t : Bool) → (line_length bytes ≤ room → line_length (take room bytes) ≡ line_length bytes)
        → suc (cond t 0 (line_length bytes)) ≤ suc room → cond t 0 (line_length (take room bytes)) ≡ cond t 0 (line_length bytes)
    cases true go h = refl
    cases false go h = go (omega arith)

drop_take : (m room : ℕ) (bytes : List ℕ) → m ≤ room → drop m (take room bytes) ≡ take (room - m) (drop m bytes)
drop_take zero room bytes h = let e : room ≡ room - 0 = omega arith in ap (λ (j : ℕ). take j bytes) e
drop_take (suc m) zero bytes h = absurd (omega arith)
drop_take (suc m) (suc room) [] h = sym (take-nil (suc room - suc m))
drop_take (suc m) (suc room) (b ∷ bytes) h =
    let e : room - m ≡ suc room - suc m = omega arith in
    drop_take m room bytes (omega arith) ∙ ap (λ (j : ℕ). take j (drop m bytes)) e

rest_fits : (bytes : List ℕ) (room : ℕ) → line_length bytes ≤ room → rest (take room bytes) ≡ take (room - line_length bytes) (rest bytes)
rest_fits bytes room h =
    ap (λ (j : ℕ). drop j (take room bytes)) (length_fits bytes room h) ∙ drop_take (line_length bytes) room bytes h

-- ---- how many bytes a number takes

-- the most bytes of its line: 7 digits are enough for an amount, 20 for any number
abbrev width : ℕ → ℕ
width v = cond (leb v most) 8 21

width_most : (v : ℕ) → width v ≤ 21
width_most v = cases (leb v most)
  where
    cases : (t : Bool) → cond t 8 21 ≤ 21
    cases true = omega arith
    cases false = omega arith

-- v with j zeros after it
unfoldable zeros : (j v : ℕ) → ℕ
zeros zero v = v
zeros (suc j) v = zeros j (10 * v)

zeros_grow : (j a b : ℕ) → a ≤ b → zeros j a ≤ zeros j b
unfolding zeros
zeros_grow zero a b h = h
zeros_grow (suc j) a b h = zeros_grow j (10 * a) (10 * b) (omega arith)

-- a number's line ends at its first byte, or goes on
step : (part : Part) (b : ℕ) (bytes : List ℕ) (w : ℕ) → line_after part (b ∷ bytes) ≡ Some w
    → ((ended part ≡ Some w) × (line_length (b ∷ bytes) ≡ 1))
    ⊎ ((line_after (grown part b) bytes ≡ Some w) × (line_length (b ∷ bytes) ≡ suc (line_length bytes)))
unfolding line_after line_length
step part b bytes w e = cases (eqb b 10) e
  where
    cases : (t : Bool) → cond t (ended part) (line_after (grown part b) bytes) ≡ Some w
        → ((ended part ≡ Some w) × (suc (cond t 0 (line_length bytes)) ≡ 1))
        ⊎ ((line_after (grown part b) bytes ≡ Some w) × (suc (cond t 0 (line_length bytes)) ≡ suc (line_length bytes)))
    cases true e = inl (e, refl)
    cases false e = inr (e, refl)

apart : {l : Line} {w : ℕ} → l ≡ None → l ≡ Some w → ⊥
apart e f = let z : ◌≡◌ {A = ℕ} 0 1 = cc in omega arith

bad_line : (bytes : List ℕ) → line_after Bad bytes ≡ None
unfolding line_after grown with_digit
bad_line [] = refl
bad_line (b ∷ bytes) = cases (eqb b 10) (digit b) (bad_line bytes)
  where
    cases : (s t : Bool) → line_after Bad bytes ≡ None → cond s None (line_after (cond t Bad Bad) bytes) ≡ None
    cases true t e = refl
    cases false true e = e
    cases false false e = e

never_bad : {part : Part} {w : ℕ} (bytes : List ℕ) → part ≡ Bad → line_after part bytes ≡ Some w → ⊥
never_bad bytes e f = apart (ap (λ (p : Part). line_after p bytes) e ∙ bad_line bytes) f

-- a byte more makes it bad, or a digit longer
digit_more : (v b : ℕ) → (grown (Digits v) b ≡ Bad)
    ⊎ ((grown (Digits v) b ≡ Digits (10 * v + (b - 48))) × (v ≡ 0 → ⊥) × (10 * v + (b - 48) ≤ 2 ^ 64 - 1))
unfolding grown with_digit
digit_more v b = cases (digit b) (eqb v 0) (ltb (2 ^ 64 - 1) (10 * v + (b - 48))) (eqb-false v 0) (ltb-false (2 ^ 64 - 1) (10 * v + (b - 48)))
  where
    cases : (s t u : Bool) → (t ≡ false → v ≡ 0 → ⊥) → (u ≡ false → 10 * v + (b - 48) ≤ 2 ^ 64 - 1)
        → (cond s (cond t Bad (cond u Bad (Digits (10 * v + (b - 48))))) Bad ≡ Bad)
        ⊎ ((cond s (cond t Bad (cond u Bad (Digits (10 * v + (b - 48))))) Bad ≡ Digits (10 * v + (b - 48))) × (v ≡ 0 → ⊥) × (10 * v + (b - 48) ≤ 2 ^ 64 - 1))
    cases false t u f g = inl refl
    cases true true u f g = inl refl
    cases true false true f g = inl refl
    cases true false false f g = inr (refl, f refl, g refl)

first_digit : (b : ℕ) → (grown Empty b ≡ Bad) ⊎ ((grown Empty b ≡ Digits (b - 48)) × (b - 48 ≤ 9))
unfolding grown with_digit
first_digit b = cases (digit b) (λ d. omega (arith, leb-true b 57 (and_right (leb 48 b) (leb b 57) d)))
  where
    cases : (t : Bool) → (t ≡ true → b - 48 ≤ 9) → (cond t (Digits (b - 48)) Bad ≡ Bad) ⊎ ((cond t (Digits (b - 48)) Bad ≡ Digits (b - 48)) × (b - 48 ≤ 9))
    cases true f = inr (refl, f refl)
    cases false f = inl refl

-- What goes on from v and ends as w: it is no less, has its limit, and takes at most j bytes where v with j zeros is past it.
record Spelled (v w : ℕ) (bytes : List ℕ) : Type 0 where
  grows : v ≤ w
  small : w ≤ 2 ^ 64 - 1
  short : (j : ℕ) → w < zeros j v → line_length bytes ≤ j

spelled : (bytes : List ℕ) (v w : ℕ) → v ≤ 2 ^ 64 - 1 → line_after (Digits v) bytes ≡ Some w → Spelled v w bytes
unfolding line_after zeros
spelled [] v w h e = absurd (apart refl e)
spelled (b ∷ bytes) v w h e =
    ⊎_elim
    (λ s. let same : v ≡ w = number s.0 in record {
      grows = omega arith;
      small = omega arith;
      short = one same s.1;
    })
    (λ s. ⊎_elim
    (λ bad. absurd (never_bad bytes bad s.0))
    (λ d. let next = spelled bytes (10 * v + (b - 48)) w d.2 (sym (ap (λ (p : Part). line_after p bytes) d.0) ∙ s.0) in
    record {
      grows = omega (arith, next.grows);
      small = next.small;
      short = longer next s.1;
    })
    (digit_more v b))
    (step (Digits v) b bytes w e)
  where
    number : {x y : ℕ} → Some x ≡ Some y → x ≡ y
    number e = cc

    one : v ≡ w → line_length (b ∷ bytes) ≡ 1 → (j : ℕ) → w < zeros j v → line_length (b ∷ bytes) ≤ j
    one e l zero h = absurd (omega arith)
    one e l (suc j) h = omega arith

    longer : Spelled (10 * v + (b - 48)) w bytes → line_length (b ∷ bytes) ≡ suc (line_length bytes) → (j : ℕ) → w < zeros j v → line_length (b ∷ bytes) ≤ j
    longer next l zero h = absurd (omega (arith, next.grows))
    longer next l (suc j) h =
        let g = zeros_grow j (10 * v) (10 * v + (b - 48)) (omega arith) in
        let i = next.short j (omega arith) in
        omega arith

-- 0 stands alone
zero_line : (bytes : List ℕ) (w : ℕ) → line_after (Digits 0) bytes ≡ Some w → line_length bytes ≤ 1
unfolding line_after
zero_line [] w e = absurd (apart refl e)
zero_line (b ∷ bytes) w e =
    ⊎_elim
    (λ s. omega (arith, s.1))
    (λ s. ⊎_elim
    (λ bad. absurd (never_bad bytes bad s.0))
    (λ d. absurd (d.1 refl))
    (digit_more 0 b))
    (step (Digits 0) b bytes w e)

-- the line of a number takes no more than its width
short_line : (bytes : List ℕ) (w : ℕ) → first_line bytes ≡ Some w → line_length bytes ≤ width w
unfolding line_after zeros
short_line [] w e = absurd (apart refl e)
short_line (b ∷ bytes) w e =
    ⊎_elim
    (λ s. absurd (apart refl s.0))
    (λ s. ⊎_elim
    (λ bad. absurd (never_bad bytes bad s.0))
    (λ d. let e = sym (ap (λ (p : Part). line_after p bytes) d.0) ∙ s.0 in
    rw s.1 (within (b - 48) d.1 e (leb w most) refl))
    (first_digit b))
    (step Empty b bytes w e)
  where
    within : (v : ℕ) → v ≤ 9 → line_after (Digits v) bytes ≡ Some w → (t : Bool) → leb w most ≡ t → suc (line_length bytes) ≤ cond t 8 21
    within zero h e true f = omega (arith, zero_line bytes w e)
    within zero h e false f = omega (arith, zero_line bytes w e)
    within (suc v) h e true f =
        let s = spelled bytes (suc v) w (omega arith) e in
        omega (arith, s.short 7 (omega (arith, zeros_grow 7 1 (suc v) (omega arith), leb-true w most f)))
    within (suc v) h e false f =
        let s = spelled bytes (suc v) w (omega arith) e in
        omega (arith, s.short 20 (omega (arith, zeros_grow 20 1 (suc v) (omega arith), s.small)))

-- ---- bytes that are enough

-- with so many bytes of its lines, or more, it answers the same
record Enough (r : ℕ) (go : List Line → Reading) : Type 0 where
  same : (room : ℕ) (bytes : List ℕ) → r ≤ room → go (lines (take room bytes)) ≡ go (lines bytes)

more : {r s : ℕ} {go : List Line → Reading} → r ≤ s → Enough r go → Enough s go
more h e = record { same = λ room bytes l. e.same room bytes (omega arith) }

check_enough : (t : Bool) (why : Refusal) (line : ℕ) {r : ℕ} {go : List Line → Reading} → (t ≡ true → Enough r go) → Enough r (λ ls. check t why line (go ls))
check_enough true why line e = e refl
check_enough false why line e = record { same = λ room bytes h. refl }

fault_enough : (f : Option Fault) {r : ℕ} {go : List Line → Reading} → (f ≡ None → Enough r go) → Enough r (λ ls. or_fault f (go ls))
unfolding or_fault
fault_enough None e = e refl
fault_enough (Some fault) e = record { same = λ room bytes h. refl }

needed_enough : (at : ℕ) {r : ℕ} {go : ℕ → List Line → Reading} → 21 ≤ r → ((v : ℕ) → Enough (r - width v) (go v)) → Enough r (λ ls. needed at ls go)
needed_enough at {r} {go} h e = record {
  same = λ room bytes l.
      ⊎_elim
      (λ w. let v = w.0 in
      let s : line_length bytes ≤ width v = short_line bytes v w.1 in
      let f : line_length bytes ≤ room = omega (arith, width_most v) in
      needed_number at go (take room bytes) v (line_fits Empty bytes room f ∙ w.1)
      ∙ ap (λ (bs : List ℕ). go v (lines bs)) (rest_fits bytes room f)
      ∙ (e v).same (room - line_length bytes) (rest bytes) (omega arith)
      ∙ sym (needed_number at go bytes v w.1))
      (λ m. needed_misshapen at go (take room bytes) (misshapen_cut Empty bytes room m) ∙ sym (needed_misshapen at go bytes m))
      (line_of bytes);
}

-- what numbers take
unfoldable spent : List ℕ → ℕ
spent [] = 0
spent (v ∷ vs) = width v + spent vs

spent_most : (vs : List ℕ) → spent vs ≤ 21 * length vs
unfolding spent
spent_most [] = omega arith
spent_most (v ∷ vs) = omega (arith, width_most v, spent_most vs)

spent_small : (vs : List ℕ) → every (λ a. leb a most) vs ≡ true → spent vs ≤ 8 * length vs
unfolding spent every
spent_small [] e = omega arith
spent_small (v ∷ vs) e =
    let w : width v ≡ 8 = ap (λ (t : Bool). cond t 8 21) (and_left (leb v most) (every (λ a. leb a most) vs) e) in
    omega (arith, spent_small vs (and_right (leb v most) (every (λ a. leb a most) vs) e))

many_enough : (m at : ℕ) {r : ℕ} {go : List ℕ → List Line → Reading} → 21 * m ≤ r → ((vs : List ℕ) → length vs ≡ m → Enough (r - spent vs) (go vs))
    → Enough r (λ ls. many m at ls go)
unfolding many spent
many_enough zero at h e = more (omega arith) (e [] refl)
many_enough (suc m) at h e =
    needed_enough at (omega arith)
    (λ v. many_enough m (at + 1) (omega (arith, width_most v)) (λ vs l. more (omega arith) (e (v ∷ vs) (ap suc l))))

prices_enough : (k last at : ℕ) {r : ℕ} {go : List ℕ → List Line → Reading} → ((vs : List ℕ) → Enough r (go vs))
    → Enough (21 * k + r) (λ ls. prices k last at ls go)
unfolding prices
prices_enough zero last at e = more (omega arith) (e [])
prices_enough (suc k) last at e =
    needed_enough at (omega arith)
    (λ v. check_enough (next_price last v) Malformed at (λ t. more (omega (arith, width_most v)) (prices_enough k v (at + 1) (λ vs. e (v ∷ vs)))))

-- A good bid takes 8 bytes a line, and the first with a fault at most 21; after the last bid one byte more is enough.
bids_enough : (k m at : ℕ) {go : List (List ℕ) → List Line → Reading} → k ≤ 256 → ((ts : List (List ℕ)) → Enough 1 (go ts))
    → Enough (4096 * m + 6657) (λ ls. bids k m at ls go)
unfolding bids
bids_enough k zero at h e = more (omega arith) (e [])
bids_enough k (suc m) at h e =
    many_enough (2 * k) at (omega arith)
    (λ table l. fault_enough (table_fault k at table)
    (λ f. more (omega (arith, spent_small table (faultless k at table f).0)) (bids_enough k m (at + 2 * k) h (λ ts. e (table ∷ ts)))))

ending_enough : (at : ℕ) (go : Reading) → Enough 1 (λ ls. ending at ls go)
ending_enough at go = record { same = cases }
  where
    cases : (room : ℕ) (bytes : List ℕ) → 1 ≤ room → ending at (lines (take room bytes)) go ≡ ending at (lines bytes) go
    cases room [] h = ap (λ (bs : List ℕ). ending at (lines bs) go) (take-nil room)
    cases zero (b ∷ bytes) h = absurd (omega arith)
    cases (suc room) (b ∷ bytes) h = ending_extra at go (b ∷ take room bytes) (omega arith) ∙ sym (ending_extra at go (b ∷ bytes) (omega arith))

-- ---- the sections

bids_section : (n : ℕ) (seeds : List ℕ) (k : ℕ) (listed : List ℕ) → k ≤ 256 → Enough 4_102_678 (read_bids n seeds k listed)
unfolding read_bids
bids_section n seeds k listed h =
    needed_enough (n + k + 3) (omega arith)
    (λ m. check_enough (leb m 1000) TooManyBids (n + k + 3)
    (λ t. more (omega (arith, width_most m, leb-true m 1000 t)) (bids_enough k m (n + k + 4) h (λ ts. ending_enough _ _))))

prices_section : (n : ℕ) (seeds : List ℕ) → Enough 4_108_075 (read_prices n seeds)
unfolding read_prices
prices_section n seeds =
    needed_enough (n + 2) (omega arith)
    (λ k. check_enough (leb 1 k && leb k 256) OutOfRange (n + 2)
    (λ t. let h = leb-true k 256 (and_right (leb 1 k) (leb k 256) t) in
    more (omega (arith, width_most k)) (prices_enough k 0 (n + 3) (λ listed. bids_section n seeds k listed h))))

all_sections : Enough 4_108_285 read
unfolding read
all_sections =
    needed_enough 1 (omega arith)
    (λ n. check_enough (leb 3 n && leb n 9) OutOfRange 1
    (λ t. let h = leb-true n 9 (and_right (leb 3 n) (leb n 9) t) in
    many_enough n 2 (omega (arith, width_most n))
    (λ seeds l. more (omega (arith, width_most n, spent_most seeds)) (prices_section n seeds))))

-- what stands after the first 4,194,304 bytes changes nothing
pub cut_read : (room : ℕ) (bytes : List ℕ) → 4_194_304 ≤ room → read (lines (take room bytes)) ≡ read (lines bytes)
cut_read room bytes h = all_sections.same room bytes (omega arith)
