-- Every party's call of the canonical list is for one of the parties 1 to n. Assumes nothing.
use Rattle.std.specs.Prelude.{Err, Ok}
use mathlib.Core.Path.{◌≡◌, refl, sym, ap, ◌∙◌}
use mathlib.Core.Bool.{Bool, true, false, not, ◌&&◌, true≢false, cond}
use mathlib.Core.List.{List, [], ◌∷◌, ◌++◌, map, flatten, zip}
use Prim.Native.Nat.{ℕ, zero, suc, ◌+◌, ◌≤◌}
use native.Mathlib.Omega.{arith}
use lib.Dec.{ltb, eqb}
use borrow.Author.Tests.{ne_eqb}
use Rattle.refusal.specs.Judging.{kept}
use Rattle.refusal.proofs.Judging.{refuses}
use Rattle.refusal.specs.Refusal.{Judgement}
use Rattle.ranges.specs.Lists.{from}
use Rattle.ranges.proofs.Loops.{and_false}
use Rattle.sharing.specs.Scheme.{points}
use Rattle.comparison.specs.Probe.{Each}
use Rattle.record.specs.declared.Party.{Party}
use Rattle.record.specs.Record.{sound, replied, blank}
use Rattle.record.specs.Updates.{fresh, entered}
use Rattle.session.specs.Open.{open_judgement}
use Rattle.session.specs.Add.{add_judgement}
use Rattle.session.specs.Answer.{answer_judgement}
use Rattle.record.proofs.Updates.{blank_unsound, entered_same}
use Rattle.message.specs.Message.{in_level}
use Rattle.saying.specs.Say.{current, say_judgement}
use Rattle.presence.specs.Presence.{are_marks}
use Rattle.stepping.proofs.Next.{after_same, level_same}
use Rattle.heard_round.specs.Next.{heard_next}
use Rattle.hearing.specs.Hear.{hear_judgement}
use Rattle.stepping.specs.After.{role, after, after_level}
use Rattle.level.specs.Level.{level_kept}
use Rattle.level_round.specs.Columns.{level_sides}
use Rattle.round.specs.Round.{heard}
use Rattle.auction.specs.Auction.{Auction}
use Rattle.auction.specs.Coins.{Coins, DrawnBid, flat}
use Rattle.auction.specs.Desk.{Desk}
use Rattle.auction.specs.Attendance.{Marks, Attendance}
use Rattle.auction.specs.Call.{Call, open_call, judgement, is_accepted, accepted, whose, of_party}
use Rattle.auction.specs.Canonical.{Seat, all_over, zeros, seated, shares_for, splits_for, add_by, after_adding, deal_for, after_dealing, say_by, hear_by, after_hearing, ask, where_so, says_word, say_in, words_for, hear_round, hear_in, after_round, asks_then, ask_in, enough_rounds, from_rounds, deals, from_bids, canonical}
use Rattle.auction.specs.Run.{select, own}
use Rattle.auction.proofs.Calls.{select_append, flatten_ones, own_none, own_flatten, own_bundle}

-- ---- on a record that is not sound every call is refused

module _ (q : Party) (unsound : sound q ≡ false) where
  no_add : (totals : List ℕ) (bidder : ℕ) (shares : List ℕ) → is_accepted (add_judgement q totals bidder shares) ≡ false
  unfolding add_judgement is_accepted
  no_add totals bidder shares = ap is_accepted (refuses _ _ _ (rw unsound))

  no_say : (totals sheets said : List ℕ) → is_accepted (say_judgement q totals sheets said) ≡ false
  unfolding say_judgement is_accepted
  no_say totals sheets said = ap is_accepted (refuses _ _ _ (ap not unsound))

  no_hear : (totals sheets messages present : List ℕ) → is_accepted (hear_judgement q totals sheets messages present) ≡ false
  unfolding hear_judgement is_accepted
  no_hear totals sheets messages present = ap is_accepted (refuses _ _ _ (ap (λ (b : Bool). not (b && are_marks present)) unsound))

  no_answer : is_accepted (answer_judgement q) ≡ false
  unfolding answer_judgement is_accepted
  no_answer = ap is_accepted (refuses _ _ _ (ap not unsound))

-- a hearing leaves the own number
heard_own : (q : Party) (sheet messages present : List ℕ) → (heard_next q sheet messages present).own ≡ q.own
unfolding heard_next
heard_own q sheet messages present = split (in_level q)
  where
    split : (b : Bool) → (cond b (after_level q (level_kept q.round q.sum q.pairs.words sheet (level_sides q.n q.round present messages)))
        (after q sheet (heard q.n (role q) present messages))).own ≡ q.own
    split true = (level_same q _).own
    split false = (after_same q sheet _).own

-- ---- party j is none of these

either : {B : Type 0} (f : List Call → B) (b : Bool) (l m : List Call) (y : B) → f l ≡ y → f m ≡ y → f (elim b [ true ↦ l | false ↦ m ]) ≡ y
either f true l m y p q = p
either f false l m y p q = q

module _ (j : ℕ) where
  -- party j has no such record: it is another's, or not sound
  abbrev Not : Party → Type 0
  Not q = sound q && eqb q.own j ≡ false

  abbrev Away : Seat → Type 0
  Away s = Not s.party

  -- no call on it is accepted and party j's
  none_by : (q : Party) (J : Judgement) → (sound q ≡ false → is_accepted J ≡ false) → Not q → is_accepted J && eqb q.own j ≡ false
  none_by q J refused e = split (sound q) refl
    where
      split : (s : Bool) → sound q ≡ s → is_accepted J && eqb q.own j ≡ false
      split true s = and_false (is_accepted J) (eqb q.own j) (rw s at e)
      split false s = rw (refused s)

  -- and a call leaves no such record
  left_away : (q next : Party) (J : Judgement) → (sound q ≡ false → is_accepted J ≡ false) → next.own ≡ q.own → Not q → Not (replied J next q).party
  unfolding replied kept is_accepted
  left_away q next (Ok tt) refused same e = split (sound q) refl
    where
      split : (s : Bool) → sound q ≡ s → Not next
      split true s = and_false (sound next) (eqb next.own j) (ap (λ (i : ℕ). eqb i j) same ∙ (rw s at e))
      split false s = absurd (true≢false (refused s))
  left_away q next (Err why) refused same e = e

  none_nil : own j [] ≡ []
  unfolding select
  none_nil = refl

  none_append : (l m : List Call) → own j l ≡ [] → own j m ≡ [] → own j (l ++ m) ≡ []
  none_append l m p q = select_append _ l m ∙ rw (p, q)

  away_map : {A : Type 0} (P : A → Type 0) (f : A → Seat) → ((x : A) → P x → Away (f x)) → (xs : List A) → Each P xs → Each Away (map f xs)
  away_map P f g [] h = tt
  away_map P f g (x ∷ xs) h = (g x h.0, away_map P f g xs h.1)

  none_each : {A : Type 0} (P : A → Type 0) (f : A → List Call) → ((x : A) → P x → own j (f x) ≡ []) → (xs : List A) → Each P xs
      → own j (flatten (map f xs)) ≡ []
  unfolding flatten
  none_each P f g [] h = none_nil
  none_each P f g (x ∷ xs) h = none_append (f x) (flatten (map f xs)) (g x h.0) (none_each P f g xs h.1)

  -- a call that is made or not
  none_one : (made : Bool) (c : Call) → accepted c && of_party j (whose c) ≡ false → own j (where_so made c) ≡ []
  unfolding select
  none_one true c e = rw e
  none_one false c e = refl

  none_map : {A : Type 0} (P : A → Type 0) (f : A → Call) → ((x : A) → P x → accepted (f x) && of_party j (whose (f x)) ≡ false)
      → (xs : List A) → Each P xs → own j (map f xs) ≡ []
  none_map P f g xs h = ap (own j) (sym (flatten_ones f xs)) ∙ none_each P (λ x. f x ∷ []) (λ x p. none_one true (f x) (g x p)) xs h

  module _ (a : Auction) (c : Coins) (marks : Marks) (desk : Desk) (att : Attendance) where
    away_seated : (i : ℕ) → eqb i j ≡ false → Away (seated a i)
    unfolding seated replied kept fresh
    away_seated i h = split (open_judgement a.n i a.k a.last (zeros a))
      where
        split : (J : Judgement) → Not (kept J (fresh a.n i a.k a.last) blank)
        split (Ok tt) = and_false (sound (fresh a.n i a.k a.last)) (eqb i j) h
        split (Err why) = rw blank_unsound

    away_added : (b : DrawnBid) (s : Seat) → Away s → Away (after_adding a desk b s)
    unfolding after_adding
    away_added b s h =
        left_away s.party (entered s.party b.0.bidder) (add_judgement s.party s.totals b.0.bidder (shares_for a desk b s))
        (λ e. no_add s.party e s.totals b.0.bidder (shares_for a desk b s)) (entered_same s.party b.0.bidder).own h

    away_heard : (round : ℕ) (ss : List Seat) (s : Seat) → Away s → Away (after_round marks att round ss s)
    unfolding after_round after_hearing
    away_heard round ss s h =
        let words = words_for marks att round s.party.own ss in
        let sheet = current s.party s.sheets in
        left_away s.party (heard_next s.party sheet words (marks round)) (hear_judgement s.party s.totals s.sheets words (marks round))
        (λ e. no_hear s.party e s.totals s.sheets words (marks round)) (heard_own s.party sheet words (marks round)) h

    none_asks : (round : ℕ) (ss : List Seat) → Each Away ss → own j (flatten (map (ask_in marks att round) ss)) ≡ []
    unfolding ask_in ask judgement whose of_party
    none_asks round ss h =
        none_each Away (ask_in marks att round) (λ s e. none_one (asks_then marks att round s.party.own) (ask s) (none_by s.party _ (no_answer s.party) e)) ss h

    none_says : (round : ℕ) (ss : List Seat) → Each Away ss → own j (flatten (map (say_in marks att round) ss)) ≡ []
    unfolding say_in say_by judgement whose of_party
    none_says round ss h =
        none_each Away (say_in marks att round)
        (λ s e. none_one (says_word marks att round s.party.own) (say_by s) (none_by s.party _ (λ u. no_say s.party u s.totals s.sheets _) e)) ss h

    none_hears : (round : ℕ) (all ss : List Seat) → Each Away ss → own j (flatten (map (hear_in marks att round all) ss)) ≡ []
    unfolding hear_in hear_round hear_by judgement whose of_party
    none_hears round all ss h =
        none_each Away (hear_in marks att round all)
        (λ s e. none_one (ltb round (att.hears s.party.own)) (hear_round marks att round all s) (none_by s.party _ (λ u. no_hear s.party u s.totals s.sheets _ _) e)) ss h

    none_adds : (b : DrawnBid) (ss : List Seat) → Each Away ss → own j (map (add_by a desk b) ss) ≡ []
    unfolding add_by judgement whose of_party
    none_adds b ss h = none_map Away (add_by a desk b) (λ s e. none_by s.party _ (λ u. no_add s.party u s.totals b.0.bidder (shares_for a desk b s)) e) ss h

    none_splits : (b : DrawnBid) (ss : List Seat) → own j (flatten (map (splits_for a desk b) ss)) ≡ []
    unfolding splits_for
    none_splits b ss =
        own_flatten j (splits_for a desk b) ss (λ s. own_bundle a j s.party.own b.0.table (flat b.1) (desk b.0.bidder s.party.own))

    none_deals : (ss : List Seat) → own j (deals a c ss) ≡ []
    unfolding deals deal_for whose of_party
    none_deals [] = none_nil
    none_deals (s ∷ ss) = none_append _ _ (own_none j (deal_for a c s) c.sheets (λ k. refl)) (none_deals ss)

    none_rounds : (fuel round : ℕ) (ss : List Seat) → Each Away ss → own j (from_rounds marks att fuel round ss) ≡ []
    unfolding from_rounds
    none_rounds zero round ss h = none_asks round ss h
    none_rounds (suc fuel) round ss h =
        let rest = none_rounds fuel (suc round) (map (after_round marks att round ss) ss) (away_map Away (after_round marks att round ss) (away_heard round ss) ss h) in
        either (own j) (all_over ss) _ _ [] (none_asks round ss h) (none_append _ _ (none_says round ss h) (none_append _ _ (none_hears round ss ss h) rest))

    none_bids : (bs : List DrawnBid) (ss : List Seat) → Each Away ss → own j (from_bids a c marks desk att bs ss) ≡ []
    unfolding from_bids after_dealing
    none_bids [] ss h =
        none_append _ _ (none_deals ss) (none_rounds (enough_rounds a) 0 (map (after_dealing a c) ss) (away_map Away (after_dealing a c) (λ s e. e) ss h))
    none_bids (b ∷ bs) ss h =
        let rest = none_bids bs (map (after_adding a desk b) ss) (away_map Away (after_adding a desk b) (away_added b) ss h) in
        none_append _ _ (none_splits b ss) (none_append _ _ (none_adds b ss h) rest)

    module _ (outside : 1 ≤ j → j ≤ a.n → ⊥) where
      away_from : (i m : ℕ) → 1 ≤ i → i + m ≤ suc a.n → Each (λ x. eqb x j ≡ false) (from i m)
      unfolding from
      away_from i zero h k = tt
      away_from i (suc m) h k =
          (ne_eqb i j (λ e. outside (omega arith) (omega arith)), away_from (suc i) m (omega arith) (omega arith))

      away_points : Each (λ x. eqb x j ≡ false) (points a.n)
      away_points = away_from 1 a.n (omega arith) (omega arith)

      none_opens : own j (map (λ i. open_call a.n i a.k a.last (zeros a)) (points a.n)) ≡ []
      unfolding whose of_party
      none_opens = none_map (λ x. eqb x j ≡ false) _ (λ x e. and_false (accepted (open_call a.n x a.k a.last (zeros a))) (eqb x j) e) (points a.n) away_points

      -- no call of the canonical list is party j's own
      pub none_told : own j (canonical a c marks desk att) ≡ []
      unfolding canonical
      none_told =
          none_append _ _ none_opens
          (none_bids (zip a.bids c.bids) (map (seated a) (points a.n))
          (away_map (λ x. eqb x j ≡ false) (seated a) away_seated (points a.n) away_points))
