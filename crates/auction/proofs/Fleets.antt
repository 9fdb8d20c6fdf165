-- No call of the canonical list is a fleet's. Assumes nothing.
use mathlib.Core.Path.{◌≡◌, refl, ap₂, ◌∙◌}
use mathlib.Core.Bool.{Bool, true, false}
use mathlib.Core.List.{List, [], ◌∷◌, ◌++◌, map, flatten, zip}
use Prim.Native.Nat.{ℕ, zero, suc}
use lib.Dec.{ltb}
use Rattle.ranges.proofs.Loops.{and_false}
use Rattle.sharing.specs.Scheme.{points}
use Rattle.auction.specs.Auction.{Auction}
use Rattle.auction.specs.Coins.{Coins, DrawnBid}
use Rattle.auction.specs.Desk.{Way, whole, by_entries, Desk}
use Rattle.auction.specs.Attendance.{Marks, Attendance}
use Rattle.auction.specs.Call.{Call, open_call, accepted, whose, of_fleet}
use Rattle.auction.specs.Canonical.{Seat, all_over, zeros, seated, entry_calls, bundle_calls, splits_for, add_by, after_adding, deal_for, deals, after_dealing, say_by, hear_by, ask, where_so, says_word, say_in, hear_round, hear_in, after_round, asks_then, ask_in, enough_rounds, from_rounds, from_bids, canonical}
use Rattle.auction.specs.Run.{select, fills}
use Rattle.auction.proofs.Calls.{select_append}

-- a list without such calls
abbrev None : List Call → Type 0
None l = fills l ≡ []

none_nil : None []
unfolding select
none_nil = refl

none_cons : (c : Call) (l : List Call) → of_fleet (whose c) ≡ false → None l → None (c ∷ l)
unfolding select
none_cons c l e h = rw (and_false (accepted c) (of_fleet (whose c)) e) h

none_append : (l m : List Call) → None l → None m → None (l ++ m)
none_append l m p q = select_append _ l m ∙ ap₂ ◌++◌ p q

none_map : {A : Type 0} (f : A → Call) → ((x : A) → of_fleet (whose (f x)) ≡ false) → (xs : List A) → None (map f xs)
none_map f e [] = none_nil
none_map f e (x ∷ xs) = none_cons (f x) (map f xs) (e x) (none_map f e xs)

none_flat : {A : Type 0} (f : A → List Call) → ((x : A) → None (f x)) → (xs : List A) → None (flatten (map f xs))
unfolding flatten
none_flat f e [] = none_nil
none_flat f e (x ∷ xs) = none_append (f x) (flatten (map f xs)) (e x) (none_flat f e xs)

none_so : (made : Bool) (c : Call) → of_fleet (whose c) ≡ false → None (where_so made c)
none_so true c e = none_cons c [] e none_nil
none_so false c e = none_nil

module _ (a : Auction) where
  none_entries : (own : ℕ) (table coins order lent : List ℕ) → None (entry_calls a own table coins order lent)
  unfolding entry_calls whose of_fleet
  none_entries own table coins [] lent = none_nil
  none_entries own table coins (e ∷ order) lent = none_cons _ _ refl (none_entries own table coins order _)

  none_bundle : (own : ℕ) (table coins : List ℕ) (way : Way) → None (bundle_calls a own table coins way)
  unfolding bundle_calls whose of_fleet
  none_bundle own table coins whole = none_cons _ [] refl none_nil
  none_bundle own table coins (by_entries order lent) = none_entries own table coins order lent

module _ (marks : Marks) (att : Attendance) where
  none_asks : (round : ℕ) (ss : List Seat) → None (flatten (map (ask_in marks att round) ss))
  unfolding ask_in ask whose of_fleet
  none_asks round ss = none_flat (ask_in marks att round) (λ s. none_so (asks_then marks att round s.party.own) (ask s) refl) ss

  none_rounds : (fuel round : ℕ) (ss : List Seat) → None (from_rounds marks att fuel round ss)
  unfolding from_rounds say_in say_by hear_in hear_round hear_by whose of_fleet
  none_rounds zero round ss = none_asks round ss
  none_rounds (suc fuel) round ss = split (all_over ss) (none_rounds fuel (suc round) (map (after_round marks att round ss) ss))
    where
      split : (o : Bool) → None (from_rounds marks att fuel (suc round) (map (after_round marks att round ss) ss))
          → None (elim o [
            | true ↦ flatten (map (ask_in marks att round) ss)
            | false ↦
                flatten (map (say_in marks att round) ss)
                ++ (flatten (map (hear_in marks att round ss) ss) ++ from_rounds marks att fuel (suc round) (map (after_round marks att round ss) ss))
          ])
      split true rest = none_asks round ss
      split false rest =
          none_append _ _ (none_flat (say_in marks att round) (λ s. none_so (says_word marks att round s.party.own) (say_by s) refl) ss)
          (none_append _ _ (none_flat (hear_in marks att round ss) (λ s. none_so (ltb round (att.hears s.party.own)) (hear_round marks att round ss s) refl) ss) rest)

module _ (a : Auction) (c : Coins) (marks : Marks) (desk : Desk) (att : Attendance) where
  none_deals : (ss : List Seat) → None (deals a c ss)
  unfolding deals deal_for whose of_fleet
  none_deals [] = none_nil
  none_deals (s ∷ ss) = none_append _ _ (none_map (deal_for a c s) (λ k. refl) c.sheets) (none_deals ss)

  none_bids : (bs : List DrawnBid) (ss : List Seat) → None (from_bids a c marks desk att bs ss)
  unfolding from_bids splits_for add_by whose of_fleet
  none_bids [] ss = none_append _ _ (none_deals ss) (none_rounds marks att (enough_rounds a) 0 (map (after_dealing a c) ss))
  none_bids (b ∷ bs) ss =
      none_append _ _ (none_flat (splits_for a desk b) (λ s. none_bundle a _ _ _ _) ss)
      (none_append _ _ (none_map (add_by a desk b) (λ s. refl) ss) (none_bids bs (map (after_adding a desk b) ss)))

  pub no_fills : fills (canonical a c marks desk att) ≡ []
  unfolding canonical whose of_fleet
  no_fills =
      none_append _ _ (none_map (λ j. open_call a.n j a.k a.last (zeros a)) (λ j. refl) (points a.n))
      (none_bids (zip a.bids c.bids) (map (seated a) (points a.n)))
