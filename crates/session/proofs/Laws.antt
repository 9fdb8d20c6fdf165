-- The calls' judgements, in facts: a call is accepted exactly where they hold. Assumes nothing.
use Rattle.std.specs.Prelude.{Ok}
use mathlib.Core.Path.{◌≡◌, refl}
use mathlib.Core.Bool.{Bool, true, false, ◌||◌}
use mathlib.Core.List.{List}
use Prim.Native.Nat.{ℕ, ◌*◌}
use native.Mathlib.Omega.{arith}
use lib.ListN.{length}
use borrow.Author.Tests.{ltb-false, leb-true, eqb-true, not-false, le-ltb, le-leb, eq-eqb}
use Rattle.fields.specs.Amount.{p}
use Rattle.ranges.specs.Below.{AllBelow}
use Rattle.refusal.specs.Judging.{judged}
use Rattle.roll.proofs.Laws.{Free}
use Rattle.record.specs.declared.Party.{Party}
use Rattle.ways.specs.Way.{is_way}
use Rattle.session.specs.Open.{open_judgement}
use Rattle.session.specs.Add.{add_judgement}
use Rattle.ranges.proofs.Loops.{and-true}
use Rattle.refusal.proofs.Judging.{passed}
use Rattle.ranges.proofs.Ranges.{OnList, on_list, on_list_of, all_below, is_below}
use Rattle.record.proofs.Soundness.{Sound, sound_facts, sound_of}

-- ---- opening

pub record Opens (n own k last : ℕ) (totals : List ℕ) : Type 0 where
  pub listed : OnList n own k
  pub way : is_way last ≡ true
  pub totals_long : length totals ≡ 2 * k

module _ (n own k last : ℕ) (totals : List ℕ) where
  pub opens : open_judgement n own k last totals ≡ Ok tt → Opens n own k last totals
  unfolding open_judgement
  opens e =
      let range = passed _ _ _ e in
      let size = passed _ _ _ range.1 in
      let who = and-true _ _ (not-false _ range.0) in
      record { listed = on_list n own k who.0; way = who.1; totals_long = eqb-true _ _ (not-false _ size.0) }

  pub open_accepted : Opens n own k last totals → open_judgement n own k last totals ≡ Ok tt
  unfolding open_judgement judged
  open_accepted h = rw (on_list_of n own k h.listed, h.way, eq-eqb (length totals) (2 * k) h.totals_long)

-- ---- adding

pub record Adds (q : Party) (totals : List ℕ) (bidder : ℕ) (shares : List ℕ) : Type 0 where
  pub sound : Sound q
  pub free : Free q.roll bidder
  pub totals_long : length totals ≡ 2 * q.k
  pub shares_long : length shares ≡ 2 * q.k
  -- before the first heard round
  pub no_probes : q.search.probes ≡ 0
  pub first_round : q.round ≡ 1
  pub totals_below : AllBelow p totals
  pub shares_below : AllBelow p shares

or-false : (a b : Bool) → a || b ≡ false → (a ≡ false) × (b ≡ false)
or-false true b e = (e, cc)
or-false false b e = (refl, e)

module _ (q : Party) (totals : List ℕ) (bidder : ℕ) (shares : List ℕ) where
  pub adds : add_judgement q totals bidder shares ≡ Ok tt → Adds q totals bidder shares
  unfolding add_judgement
  adds e =
      let whole = passed _ _ _ e in
      let size = passed _ _ _ whole.1 in
      let turn = passed _ _ _ size.1 in
      let entry = passed _ _ _ turn.1 in
      let field = passed _ _ _ entry.1 in
      let w = and-true _ _ (not-false _ whole.0) in
      let s = sound_facts q w.0 in
      let b = and-true _ _ w.1 in
      let l = and-true _ _ (not-false _ size.0) in
      let t = or-false _ _ turn.0 in
      let f = and-true _ _ (not-false _ field.0) in
      record {
        sound = s;
        free = record { least = leb-true _ _ b.0; most = leb-true _ _ b.1; new = entry.0 };
        totals_long = eqb-true _ _ l.0;
        shares_long = eqb-true _ _ l.1;
        no_probes = omega (arith, ltb-false 0 q.search.probes t.0);
        first_round = omega (arith, ltb-false 1 q.round t.1, s.round.least);
        totals_below = all_below p totals f.0;
        shares_below = all_below p shares f.1;
      }

  pub add_accepted : Adds q totals bidder shares → add_judgement q totals bidder shares ≡ Ok tt
  unfolding add_judgement judged
  add_accepted h =
      rw (
        sound_of q h.sound,
        le-leb 1 bidder h.free.least,
        le-leb bidder 1000 h.free.most,
        eq-eqb (length totals) (2 * q.k) h.totals_long,
        eq-eqb (length shares) (2 * q.k) h.shares_long,
        le-ltb 0 q.search.probes (omega (arith, h.no_probes)),
        le-ltb 1 q.round (omega (arith, h.first_round)),
        h.free.new,
        is_below p totals h.totals_below,
        is_below p shares h.shares_below,
      )
