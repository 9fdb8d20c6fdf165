-- A BID THAT IS SENT AGAIN never counts twice: its bidder stays marked, whatever is called since. Assumes nothing.
use Rattle.std.specs.Prelude.{Err, Ok}
use mathlib.Core.Path.{◌≡◌, refl, sym, ap, subst, ◌∙◌}
use mathlib.Core.Bool.{Bool, true, false, true≢false, not, ◌&&◌, cond}
use mathlib.Core.List.{List, [], ◌∷◌}
use Prim.Native.Nat.{ℕ, ◌*◌}
use native.Mathlib.Omega.{arith}
use lib.Dec.{leb}
use borrow.Author.Tests.{leb-true, le-leb}
use Rattle.refusal.specs.Refusal.{code_of}
use Rattle.refusal.specs.Judging.{◌⇒◌, judged}
use Rattle.refusal.specs.declared.Refusal.{Refusal}
use Rattle.refusal.specs.declared.Refusal.TheVariants.{OutOfRange, WrongLength, OutOfTurn, AlreadyEntered, ShareOutOfRange}
use Rattle.refusal.specs.Refusal.{Judgement}
use Rattle.refusal.proofs.Judging.{kept_old, kept_either}
use Rattle.ranges.specs.Sizes.{long}
use Rattle.ranges.proofs.Loops.{and-true}
use Rattle.roll.specs.Marks.{is_bidder, marked}
use Rattle.record.specs.declared.Party.{Party}
use Rattle.record.specs.Record.{sound, replied}
use Rattle.record.specs.Updates.{entered}
use Rattle.record.proofs.Replies.{next_party, reply_party}
use Rattle.record.proofs.Soundness.{Sound, sound_facts, sound_of, house_full}
use Rattle.record.proofs.Updates.{Roomy, roomy_first, roomy_entered, entered_same, entered_bids, bidder_marked, others_kept, entered_sound}
use Rattle.session.specs.Add.{begun, add_judgement, add_reply}
use Rattle.session.proofs.Laws.{adds}
use Rattle.round.specs.Round.{heard}
use Rattle.message.specs.Message.{in_level}
use Rattle.saying.specs.Say.{current}
use Rattle.heard_round.specs.Next.{heard_next}
use Rattle.hearing.specs.Hear.{hear_judgement, hear_reply}
use Rattle.stepping.specs.After.{role, after, after_level}
use Rattle.level.specs.Level.{level_kept}
use Rattle.level_round.specs.Columns.{level_sides}
use Rattle.hearing.proofs.Hears.{hears}
use Rattle.stepping.proofs.Next.{after_same, roll_after, level_same, level_roll}
use Rattle.hearing.proofs.Next.{hears_sound}
use Rattle.resending.specs.Resent.{Once, again, Between, adding, saying, hearing, asking, filling, left_by, Resent, NeverTwice, NeverFull}

-- ---- a bid that is added

pub once : Once
once q totals bidder shares e =
    let A = adds q totals bidder shares e in
    rw (next_party (add_judgement q totals bidder shares) (entered q bidder) q e)
    (record {
      is_in = bidder_marked q bidder A.sound A.free;
      others_kept = others_kept q bidder A.sound A.free;
      one_more = entered_bids q bidder;
    })

-- ---- a bidder who is in stays in, on a record that stays sound

record StaysIn (k b : ℕ) (q : Party) : Type 0 where
  is_in : marked q.roll b ≡ true
  whole : Sound q
  roomy : Roomy q
  prices : q.k ≡ k

-- what holds of the next record of an accepted call, and of the old one, holds of the reply's
either : (P : Party → Type 0) (j : Judgement) (next old : Party) → (j ≡ Ok tt → P next) → P old → P (replied j next old).party
unfolding replied
either P j next old new same = kept_either j next old P new same

-- a hearing leaves the roll and the number of prices
module _ (q : Party) (sheet messages present : List ℕ) where
  abbrev by_way : Bool → Party
  by_way b =
      cond b (after_level q (level_kept q.round q.sum q.pairs.words sheet (level_sides q.n q.round present messages)))
      (after q sheet (heard q.n (role q) present messages))

  heard_roll : (heard_next q sheet messages present).roll ≡ q.roll
  unfolding heard_next
  heard_roll = split (in_level q)
    where
      split : (b : Bool) → (by_way b).roll ≡ q.roll
      split true = level_roll q _
      split false = roll_after q sheet _

  heard_k : (heard_next q sheet messages present).k ≡ q.k
  unfolding heard_next
  heard_k = split (in_level q)
    where
      split : (b : Bool) → (by_way b).k ≡ q.k
      split true = (level_same q _).k
      split false = (after_same q sheet _).k

module _ (k b : ℕ) where
  after_adding : (q : Party) (totals : List ℕ) (bidder : ℕ) (shares : List ℕ) → StaysIn k b q → StaysIn k b (add_reply q totals bidder shares).party
  after_adding q totals bidder shares i =
      either (StaysIn k b) (add_judgement q totals bidder shares) (entered q bidder) q
      (λ e.
      let A = adds q totals bidder shares e in
      let other : b ≡ bidder → ⊥ = λ s. true≢false (sym i.is_in ∙ ap (marked q.roll) s ∙ A.free.new) in
      record {
        is_in = others_kept q bidder A.sound A.free b other ∙ i.is_in;
        whole = entered_sound q bidder A.sound A.free;
        roomy = roomy_entered q bidder i.roomy;
        prices = (entered_same q bidder).k ∙ i.prices;
      })
      i

  after_hearing : (q : Party) (totals sheets messages present : List ℕ) → StaysIn k b q
      → StaysIn k b (hear_reply q totals sheets messages present).party
  after_hearing q totals sheets messages present i =
      let sheet = current q sheets in
      either (StaysIn k b) (hear_judgement q totals sheets messages present) (heard_next q sheet messages present) q
      (λ e.
      let next = hears_sound q totals sheets messages present (hears q totals sheets messages present e) i.roomy in
      record {
        is_in = rw (heard_roll q sheet messages present) i.is_in;
        whole = next.0;
        roomy = next.1;
        prices = heard_k q sheet messages present ∙ i.prices;
      })
      i

  stays_in : (calls : List Between) (q : Party) → StaysIn k b q → StaysIn k b (left_by calls q)
  unfolding left_by
  stays_in [] q i = i
  stays_in (adding totals bidder shares ∷ calls) q i = stays_in calls _ (after_adding q totals bidder shares i)
  stays_in (saying totals sheets said ∷ calls) q i = stays_in calls q i
  stays_in (hearing totals sheets messages present ∷ calls) q i = stays_in calls _ (after_hearing q totals sheets messages present i)
  stays_in (asking ∷ calls) q i = stays_in calls q i
  stays_in (filling amount ∷ calls) q i = stays_in calls q i

-- ---- and is refused

-- some test of the list applies
refuses : (short late : Bool) → (why : Refusal) × (judged ((short ⇒ WrongLength) ∷ (late ⇒ OutOfTurn) ∷ (true ⇒ AlreadyEntered) ∷ []) ≡ Err why)
unfolding judged
refuses true late = (WrongLength, refl)
refuses false true = (OutOfTurn, refl)
refuses false false = (AlreadyEntered, refl)

module _ (q : Party) (b : ℕ) (whole : sound q ≡ true) (listed : is_bidder b ≡ true) (is_in : marked q.roll b ≡ true) where
  judged_again : (totals shares : List ℕ) → add_judgement q totals b shares ≡ again q.k q totals shares
  unfolding add_judgement judged
  judged_again totals shares = rw (whole, listed, is_in)

  refused_again : Resent q.k q b
  refused_again =
      let why : (totals shares : List ℕ) → (why : Refusal) × (add_judgement q totals b shares ≡ Err why) =
      λ totals shares.
      let r = refuses (not (long (2 * q.k) totals && long (2 * q.k) shares)) (begun q) in
      (r.0, judged_again totals shares ∙ r.1) in
      record {
        refused = judged_again;
        record_kept = λ totals shares. reply_party _ _ _ ∙ kept_old _ _ _ _ (why totals shares).1;
        totals_kept = λ totals shares. kept_old _ _ _ _ (why totals shares).1;
      }

-- AFTER any accepted bid and any calls since, another bid of its bidder is refused and changes nothing.
pub never_twice : NeverTwice
never_twice q totals bidder shares e between =
    let A = adds q totals bidder shares e in
    let first : StaysIn q.k bidder (entered q bidder) =
    record {
      is_in = bidder_marked q bidder A.sound A.free;
      whole = entered_sound q bidder A.sound A.free;
      roomy = roomy_entered q bidder (roomy_first q A.sound A.no_probes);
      prices = (entered_same q bidder).k;
    } in
    let next = (add_reply q totals bidder shares).party in
    let i = stays_in q.k bidder between next (rw (next_party (add_judgement q totals bidder shares) (entered q bidder) q e) first) in
    let listed : is_bidder bidder ≡ true = rw (le-leb 1 bidder A.free.least, le-leb bidder 1000 A.free.most) in
    let last = left_by between next in
    subst (λ (k : ℕ). Resent k last bidder) i.prices (refused_again last bidder (sound_of last i.whole) listed i.is_in)

-- ---- a full house

no_4 : (a b c d e : Bool)
    → code_of (judged ((a ⇒ OutOfRange) ∷ (b ⇒ WrongLength) ∷ (c ⇒ OutOfTurn) ∷ (d ⇒ AlreadyEntered) ∷ (e ⇒ ShareOutOfRange) ∷ [])) ≡ 4 → ⊥
unfolding judged
no_4 true b c d e h = omega arith
no_4 false true c d e h = omega arith
no_4 false false true d e h = omega arith
no_4 false false false true e h = omega arith
no_4 false false false false true h = omega arith
no_4 false false false false false h = omega arith

pub never_full : NeverFull
unfolding add_judgement
never_full =
    record {
      everybody_in = λ q whole full bidder listed.
          let b = and-true (leb 1 bidder) (leb bidder 1000) listed in
          refused_again q bidder whole listed (house_full q (sound_facts q whole) full bidder (leb-true _ _ b.0) (leb-true _ _ b.1));
      not_4 = λ q totals bidder shares. no_4 _ _ _ _ _;
    }
