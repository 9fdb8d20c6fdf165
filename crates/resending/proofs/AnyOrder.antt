-- BIDS IN ANY ORDER leave the same record and the same totals. Assumes nothing.
use Rattle.std.specs.Prelude.{Ok}
use mathlib.Core.Path.{◌≡◌, refl, sym, ap, ap₂, subst, ◌∙◌}
use mathlib.Core.Bool.{true≢false}
use mathlib.Core.List.{List, [], ◌∷◌, ◌++◌}
use Prim.Native.Nat.{ℕ, ◌*◌}
use lib.ListN.{length}
use Rattle.refusal.proofs.Judging.{kept_new}
use Rattle.ranges.specs.Orders.{Shuffle}
use Rattle.roll.specs.Marks.{marked}
use Rattle.fields.specs.Amount.{amounts}
use Rattle.fields.proofs.Fields.{amount_field}
use Rattle.sharing.specs.Linear.{sums}
use Rattle.sharing.proofs.Laws.{sums_lt, sums_length, sums_swap}
use Rattle.record.specs.declared.Party.{Party}
use Rattle.record.specs.Updates.{entered}
use Rattle.record.proofs.Replies.{next_party}
use Rattle.record.proofs.Updates.{entered_same, entered_search, entered_round, bidder_marked, others_kept, entered_sound, entered_swap}
use Rattle.session.specs.Add.{add_judgement}
use Rattle.session.proofs.Laws.{Adds, adds, add_accepted}
use Rattle.resending.specs.AnyOrder.{BidFor, Account, with_bid, with_bids, AllAccepted, AnyOrder}

-- what an accepted bid leaves
abbrev entering : BidFor → Account → Account
entering b h = (entered h.0 b.0, sums amounts h.1 b.1)

enters : (b : BidFor) (h : Account) → add_judgement h.0 h.1 b.0 b.1 ≡ Ok tt → with_bid b h ≡ entering b h
unfolding with_bid
enters b h e = ap₂ (λ (q : Party) (totals : List ℕ). (q, totals)) (next_party _ _ _ e) (kept_new _ _ _ e)

-- ---- two bids

module _ (q : Party) (totals : List ℕ) (b c : BidFor)
    (B : Adds q totals b.0 b.1) (C : Adds (entered q b.0) (sums amounts totals b.1) c.0 c.1) where
  apart : c.0 ≡ b.0 → ⊥
  apart e = true≢false (sym (bidder_marked q b.0 B.sound B.free) ∙ sym (ap (marked (entered q b.0).roll) e) ∙ C.free.new)

  -- the second could come first
  sooner : Adds q totals c.0 c.1
  sooner =
      record {
        sound = B.sound;
        free =
            record {
              least = C.free.least;
              most = C.free.most;
              new = sym (others_kept q b.0 B.sound B.free c.0 apart) ∙ C.free.new;
            };
        totals_long = B.totals_long;
        shares_long = C.shares_long ∙ ap (λ (k : ℕ). 2 * k) (entered_same q b.0).k;
        no_probes = B.no_probes;
        first_round = B.first_round;
        totals_below = B.totals_below;
        shares_below = C.shares_below;
      }

  as_long : (xs : List ℕ) → length xs ≡ 2 * q.k → length totals ≡ length xs
  as_long xs l = B.totals_long ∙ sym l

  -- and the first after it
  later : Adds (entered q c.0) (sums amounts totals c.1) b.0 b.1
  later =
      let prices : 2 * q.k ≡ 2 * (entered q c.0).k = sym (ap (λ (k : ℕ). 2 * k) (entered_same q c.0).k) in
      record {
        sound = entered_sound q c.0 B.sound sooner.free;
        free =
            record {
              least = B.free.least;
              most = B.free.most;
              new = others_kept q c.0 B.sound sooner.free b.0 (λ e. apart (sym e)) ∙ B.free.new;
            };
        totals_long = sums_length amount_field totals c.1 (as_long c.1 sooner.shares_long) ∙ B.totals_long ∙ prices;
        shares_long = B.shares_long ∙ prices;
        no_probes = ap (λ s. s.probes) (entered_search q c.0) ∙ B.no_probes;
        first_round = entered_round q c.0 ∙ B.first_round;
        totals_below = sums_lt amount_field totals c.1 B.totals_below C.shares_below;
        shares_below = B.shares_below;
      }

  same_account : entering b (entering c (q, totals)) ≡ entering c (entering b (q, totals))
  same_account =
      ap₂ (λ (q : Party) (totals : List ℕ). (q, totals)) (entered_swap q c.0 b.0 B.sound C.free.most)
      (sums_swap amount_field totals c.1 b.1 B.totals_below C.shares_below B.shares_below
      (as_long c.1 sooner.shares_long) (as_long b.1 B.shares_long))

-- two neighbours change places
swap_two : (h : Account) (b c : BidFor) (rest : List BidFor) → AllAccepted (b ∷ c ∷ rest) h
    → AllAccepted (c ∷ b ∷ rest) h × (with_bid b (with_bid c h) ≡ with_bid c (with_bid b h))
swap_two h b c rest e =
    let after_b = enters b h e.0 in
    let B = adds h.0 h.1 b.0 b.1 e.0 in
    let C : Adds (entered h.0 b.0) (sums amounts h.1 b.1) c.0 c.1 = adds _ _ _ _ (rw after_b at e.1.0) in
    let c_first = add_accepted _ _ _ _ (sooner h.0 h.1 b c B C) in
    let after_c = enters c h c_first in
    let b_second : add_judgement (with_bid c h).0 (with_bid c h).1 b.0 b.1 ≡ Ok tt = rw after_c (add_accepted _ _ _ _ (later h.0 h.1 b c B C)) in
    let same : with_bid b (with_bid c h) ≡ with_bid c (with_bid b h) =
    enters b (with_bid c h) b_second ∙ ap (entering b) after_c
    ∙ same_account h.0 h.1 b c B C
    ∙ sym (enters c (with_bid b h) e.1.0 ∙ ap (entering c) after_b) in
    ((c_first, (b_second, subst (AllAccepted rest) (sym same) e.1.1)), same)

-- ---- any order

-- a bid comes later
put_off : (b : BidFor) (ds es : List BidFor) (h : Account) → AllAccepted (b ∷ (ds ++ es)) h
    → AllAccepted (ds ++ (b ∷ es)) h × (with_bids (ds ++ (b ∷ es)) h ≡ with_bids (b ∷ (ds ++ es)) h)
unfolding with_bids
put_off b [] es h e = (e, refl)
put_off b (d ∷ ds) es h e =
    let s = swap_two h b d (ds ++ es) e in
    let r = put_off b ds es (with_bid d h) s.0.1 in
    ((s.0.0, r.0), r.1 ∙ ap (with_bids (ds ++ es)) s.1)

pub any_order : AnyOrder
unfolding with_bids
any_order h bids others Shuffle.end e = (e, refl)
any_order h bids others (Shuffle.next {x} {xs} ds es s) e =
    let i = any_order (with_bid x h) xs (ds ++ es) s e.1 in
    let l = put_off x ds es h (e.0, i.0) in
    (l.0, l.1 ∙ i.1)
