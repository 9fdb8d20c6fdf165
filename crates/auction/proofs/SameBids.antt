-- Bids with the matching coins: a pooled party has the same share of every amount, so of every total; and no other coins do this.
-- Assumes nothing.
use mathlib.Core.Path.{◌≡◌, refl, sym, ap, ap₂, ◌∙◌}
use mathlib.Core.Bool.{true}
use mathlib.Core.List.{List, [], ◌∷◌, map, zip, zip_with, head-eq_of_cons-eq, tail-eq_of_cons-eq}
use Prim.Native.Nat.{ℕ, suc, ◌*◌, ◌<◌}
use native.Mathlib.Nat.{suc_inj}
use native.Mathlib.Omega.{arith}
use lib.Dec.{leb}
use lib.ListN.{length, get_or, get_or-map}
use borrow.Author.Tests.{leb-true}
use Rattle.fields.specs.Amount.{p, amounts}
use Rattle.ranges.specs.Below.{AllBelow}
use Rattle.fields.proofs.Fields.{amount_field}
use Rattle.ranges.specs.Lists.{every}
use Rattle.sharing.specs.Polynomial.{value, shares}
use Rattle.sharing.proofs.Points.{Different}
use Rattle.sharing.proofs.Laws.{value_sums}
use Rattle.ranges.proofs.Loops.{and_left, and_right}
use Rattle.comparison.specs.Probe.{Each, Group}
use Rattle.comparison.proofs.Values.{Shared}
use Rattle.comparison.proofs.Agreement.{In, map_same, alike_recolour, recolour_group}
use Rattle.comparison.proofs.Only.{coefficients_only}
use Rattle.bid.specs.Table.{most}
use Rattle.auction.specs.Auction.{Bid, GoodTable}
use Rattle.auction.specs.Coins.{DrawnBid}
use Rattle.auction.proofs.Matched.{matched_groups, matched_bids}
use Rattle.auction.proofs.Closed.{entries, added_polynomials, totals_after, at_party, bid_for, bid_words}
use Rattle.auction.proofs.Totals.{GoodBid, Held, entries_held, added_held}

-- the coins of a bid are in range
abbrev pub Groups : (k t : ℕ) → List (List ℕ) → Type 0
Groups k t gs = (length gs ≡ 2 * k) × Each (Group p t) gs

small_below : (table : List ℕ) → every (λ a. leb a most) table ≡ true → AllBelow p table
unfolding every
small_below [] e = tt
small_below (x ∷ xs) e = (
  omega (arith, leb-true x most (and_left (leb x most) (every (λ a. leb a most) xs) e)),
  small_below xs (and_right (leb x most) (every (λ a. leb a most) xs) e),
)

-- ---- one bid

module _ (t : ℕ) (xs : List ℕ) (D : Different (0 ∷ xs)) (l : length xs ≡ t) where
  groups_many : (table table' : List ℕ) (gs : List (List ℕ)) → length table' ≡ length table → length gs ≡ length table
      → length (matched_groups xs table table' gs) ≡ length table
  unfolding matched_groups
  groups_many [] table' gs m n = refl
  groups_many (x ∷ table) [] gs m n = absurd (omega arith)
  groups_many (x ∷ table) (x' ∷ table') [] m n = absurd (omega arith)
  groups_many (x ∷ table) (x' ∷ table') (g ∷ gs) m n = ap suc (groups_many table table' gs (suc_inj m) (suc_inj n))

  groups_ranged : (table table' : List ℕ) (gs : List (List ℕ)) → Each (Group p t) (matched_groups xs table table' gs)
  unfolding matched_groups
  groups_ranged [] table' gs = tt
  groups_ranged (x ∷ table) [] gs = tt
  groups_ranged (x ∷ table) (x' ∷ table') [] = tt
  groups_ranged (x ∷ table) (x' ∷ table') (g ∷ gs) = (recolour_group amount_field t xs x x' g l, groups_ranged table table' gs)

  groups_words : (j : ℕ) → In j xs → (table table' : List ℕ) (gs : List (List ℕ)) → AllBelow p table → AllBelow p table' → Each (Group p t) gs
      → length table' ≡ length table → length gs ≡ length table
      → at_party j (entries table' (matched_groups xs table table' gs)) ≡ at_party j (entries table gs)
  unfolding matched_groups entries
  groups_words j i [] [] gs h h' hg m n = refl
  groups_words j i [] (x' ∷ table') gs h h' hg m n = absurd (omega arith)
  groups_words j i (x ∷ table) [] gs h h' hg m n = absurd (omega arith)
  groups_words j i (x ∷ table) (x' ∷ table') [] h h' hg m n = absurd (omega arith)
  groups_words j i (x ∷ table) (x' ∷ table') (g ∷ gs) h h' hg m n =
      ap₂ (λ (z : ℕ) (zs : List ℕ). z ∷ zs) (sym ((alike_recolour amount_field t xs D l x x' g h.0 h'.0 hg.0).same j i))
      (groups_words j i table table' gs h.1 h'.1 hg.1 (suc_inj m) (suc_inj n))

  groups_only : (table table' : List ℕ) (gs hs : List (List ℕ)) → AllBelow p table → AllBelow p table' → Each (Group p t) gs → Each (Group p t) hs
      → length table' ≡ length table → length gs ≡ length table → length hs ≡ length table
      → ((j : ℕ) → In j xs → at_party j (entries table' hs) ≡ at_party j (entries table gs))
      → hs ≡ matched_groups xs table table' gs
  unfolding matched_groups entries
  groups_only [] table' gs [] h h' hg hh m n o w = refl
  groups_only [] table' gs (d ∷ hs) h h' hg hh m n o w = absurd (omega arith)
  groups_only (x ∷ table) [] gs hs h h' hg hh m n o w = absurd (omega arith)
  groups_only (x ∷ table) (x' ∷ table') [] hs h h' hg hh m n o w = absurd (omega arith)
  groups_only (x ∷ table) (x' ∷ table') (g ∷ gs) [] h h' hg hh m n o w = absurd (omega arith)
  groups_only (x ∷ table) (x' ∷ table') (g ∷ gs) (d ∷ hs) h h' hg hh m n o w =
      ap₂ (λ (z : List ℕ) (zs : List (List ℕ)). z ∷ zs)
      (coefficients_only amount_field t xs D l x x' g d h.0 h'.0 hg.0 hh.0 (λ j i. head-eq_of_cons-eq (w j i)))
      (groups_only table table' gs hs h.1 h'.1 hg.1 hh.1 (suc_inj m) (suc_inj n) (suc_inj o) (λ j i. tail-eq_of_cons-eq (w j i)))

  -- ---- all bids

  module _ (k : ℕ) where
    pub bids_many : (bids bids' : List Bid) (gss : List (List (List ℕ))) → length bids' ≡ length bids → length gss ≡ length bids
        → length (matched_bids xs bids bids' gss) ≡ length bids
    unfolding matched_bids
    bids_many [] bids' gss m n = refl
    bids_many (b ∷ bids) [] gss m n = absurd (omega arith)
    bids_many (b ∷ bids) (b' ∷ bids') [] m n = absurd (omega arith)
    bids_many (b ∷ bids) (b' ∷ bids') (gs ∷ gss) m n = ap suc (bids_many bids bids' gss (suc_inj m) (suc_inj n))

    pub bids_ranged : (bids bids' : List Bid) (gss : List (List (List ℕ))) → Each (λ b. GoodTable k b.table) bids → Each (λ b. GoodTable k b.table) bids'
        → Each (Groups k t) gss → Each (Groups k t) (matched_bids xs bids bids' gss)
    unfolding matched_bids
    bids_ranged [] bids' gss h h' hg = tt
    bids_ranged (b ∷ bids) [] gss h h' hg = tt
    bids_ranged (b ∷ bids) (b' ∷ bids') [] h h' hg = tt
    bids_ranged (b ∷ bids) (b' ∷ bids') (gs ∷ gss) h h' hg = (
      (groups_many b.table b'.table gs (h'.0.long ∙ sym h.0.long) (hg.0.0 ∙ sym h.0.long) ∙ h.0.long, groups_ranged b.table b'.table gs),
      bids_ranged bids bids' gss h.1 h'.1 hg.1,
    )

    pub bids_words : (j : ℕ) → In j xs → (bids bids' : List Bid) (gss : List (List (List ℕ))) → Each (λ b. GoodTable k b.table) bids → Each (λ b. GoodTable k b.table) bids'
        → Each (Groups k t) gss → map (λ b. b.bidder) bids' ≡ map (λ b. b.bidder) bids → length gss ≡ length bids
        → bid_words j bids' (matched_bids xs bids bids' gss) ≡ bid_words j bids gss
    unfolding matched_bids zip zip_with
    bids_words j i [] [] gss h h' hg m n = refl
    bids_words j i [] (b' ∷ bids') gss h h' hg m n = absurd (omega (arith, ap length m))
    bids_words j i (b ∷ bids) [] gss h h' hg m n = absurd (omega (arith, ap length m))
    bids_words j i (b ∷ bids) (b' ∷ bids') [] h h' hg m n = absurd (omega arith)
    bids_words j i (b ∷ bids) (b' ∷ bids') (gs ∷ gss) h h' hg m n =
        ap₂ (λ (z : ℕ × List ℕ) (zs : List (ℕ × List ℕ)). z ∷ zs)
        (ap₂ (λ (u : ℕ) (v : List ℕ). (u, v)) (head-eq_of_cons-eq m)
        (groups_words j i b.table b'.table gs (small_below b.table h.0.small) (small_below b'.table h'.0.small) hg.0.1
        (h'.0.long ∙ sym h.0.long) (hg.0.0 ∙ sym h.0.long)))
        (bids_words j i bids bids' gss h.1 h'.1 hg.1 (tail-eq_of_cons-eq m) (suc_inj n))

    pub bids_only : (bids bids' : List Bid) (gss hss : List (List (List ℕ))) → Each (λ b. GoodTable k b.table) bids → Each (λ b. GoodTable k b.table) bids'
        → Each (Groups k t) gss → Each (Groups k t) hss → length bids' ≡ length bids → length gss ≡ length bids → length hss ≡ length bids
        → ((j : ℕ) → In j xs → bid_words j bids' hss ≡ bid_words j bids gss)
        → hss ≡ matched_bids xs bids bids' gss
    unfolding matched_bids zip zip_with
    bids_only [] bids' gss [] h h' hg hh m n o w = refl
    bids_only [] bids' gss (hs ∷ hss) h h' hg hh m n o w = absurd (omega arith)
    bids_only (b ∷ bids) [] gss hss h h' hg hh m n o w = absurd (omega arith)
    bids_only (b ∷ bids) (b' ∷ bids') [] hss h h' hg hh m n o w = absurd (omega arith)
    bids_only (b ∷ bids) (b' ∷ bids') (gs ∷ gss) [] h h' hg hh m n o w = absurd (omega arith)
    bids_only (b ∷ bids) (b' ∷ bids') (gs ∷ gss) (hs ∷ hss) h h' hg hh m n o w =
        ap₂ (λ (z : List (List ℕ)) (zs : List (List (List ℕ))). z ∷ zs)
        (groups_only b.table b'.table gs hs (small_below b.table h.0.small) (small_below b'.table h'.0.small) hg.0.1 hh.0.1
        (h'.0.long ∙ sym h.0.long) (hg.0.0 ∙ sym h.0.long) (hh.0.0 ∙ sym h.0.long) (λ j i. ap (λ e. e.1) (head-eq_of_cons-eq (w j i))))
        (bids_only bids bids' gss hss h.1 h'.1 hg.1 hh.1 (suc_inj m) (suc_inj n) (suc_inj o) (λ j i. tail-eq_of_cons-eq (w j i)))

-- ---- totals

-- a party adds its shares
word_sums : List ℕ → List ℕ → List ℕ
word_sums [] ys = []
word_sums (x ∷ xs) [] = []
word_sums (x ∷ xs) (y ∷ ys) = amounts.add x y ∷ word_sums xs ys

module _ (k t j : ℕ) (small : j < p) where
  words_added : (fs gs : List (List ℕ)) → Each (Shared p t) fs → Each (Shared p t) gs
      → at_party j (added_polynomials fs gs) ≡ word_sums (at_party j fs) (at_party j gs)
  unfolding added_polynomials word_sums
  words_added [] gs hf hg = refl
  words_added (f ∷ fs) [] hf hg = refl
  words_added (f ∷ fs) (g ∷ gs) hf hg =
      ap₂ (λ (z : ℕ) (zs : List ℕ). z ∷ zs) (value_sums amount_field f g j hf.0.1 hg.0.1 small) (words_added fs gs hf.1 hg.1)

  -- with the same shares of every bid a party has the same shares of the totals
  pub totals_same : (bs bs' : List DrawnBid) (fs fs' : List (List ℕ)) → Each (GoodBid k t) bs → Each (GoodBid k t) bs'
      → Held k t fs → Held k t fs'
      → map (bid_for j) bs' ≡ map (bid_for j) bs → at_party j fs' ≡ at_party j fs
      → at_party j (totals_after bs' fs') ≡ at_party j (totals_after bs fs)
  unfolding totals_after
  totals_same [] [] fs fs' B B' F F' w e = e
  totals_same [] (b' ∷ bs') fs fs' B B' F F' w e = absurd (omega (arith, ap length w))
  totals_same (b ∷ bs) [] fs fs' B B' F F' w e = absurd (omega (arith, ap length w))
  totals_same (b ∷ bs) (b' ∷ bs') fs fs' B B' F F' w e =
      let E : Held k t (entries b.0.table b.1) = entries_held k t b B.0 in
      let E' : Held k t (entries b'.0.table b'.1) = entries_held k t b' B'.0 in
      totals_same bs bs' (added_polynomials fs (entries b.0.table b.1)) (added_polynomials fs' (entries b'.0.table b'.1)) B.1 B'.1
      (added_held k t fs (entries b.0.table b.1) F E) (added_held k t fs' (entries b'.0.table b'.1) F' E') (tail-eq_of_cons-eq w)
      (words_added fs' (entries b'.0.table b'.1) F'.shared E'.shared ∙ ap₂ word_sums e (ap (λ z. z.1) (head-eq_of_cons-eq w))
      ∙ sym (words_added fs (entries b.0.table b.1) F.shared E.shared))

-- read entry by entry
pub shares_same : (xs : List ℕ) (fs fs' : List (List ℕ)) → ((j : ℕ) → In j xs → at_party j fs' ≡ at_party j fs)
    → (e : ℕ) → shares amounts (get_or fs' e []) xs ≡ shares amounts (get_or fs e []) xs
shares_same xs fs fs' h e =
    map_same (value amounts (get_or fs' e [])) (value amounts (get_or fs e [])) xs
    (λ j i.
    sym (get_or-map (λ f. value amounts f j) fs' e [])
    ∙ ap (λ (z : List ℕ). get_or z e (value amounts [] j)) (h j i)
    ∙ get_or-map (λ f. value amounts f j) fs e [])
