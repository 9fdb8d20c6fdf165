-- t + 1 PARTIES ARE ENOUGH TO END: the same ones are present in every round, the others never say or hear a word. Assumes nothing.
use mathlib.Core.Path.{◌≡◌, refl, ap, ◌∙◌}
use mathlib.Core.Bool.{true, false, cond}
use mathlib.Core.List.{List}
use Prim.Native.Nat.{ℕ, suc, ◌-◌, ◌≤◌, min}
use native.Mathlib.Omega.{arith}
use lib.ListN.{length, replicate}
use Rattle.session.specs.Answer.{the_answer}
use Rattle.presence.specs.Presence.{is_present}
use Rattle.auction.specs.Auction.{Auction, IsAuction, price_answer, rounds}
use Rattle.auction.specs.Coins.{Coins, InRange}
use Rattle.auction.specs.Desk.{Desk, Complete}
use Rattle.auction.specs.Attendance.{Marks, Enough, Attendance, Attends}
use Rattle.auction.specs.Call.{Call}
use Rattle.auction.specs.Canonical.{canonical}
use Rattle.auction.specs.Run.{Run}
use Rattle.auction.specs.Received.{hearings, verdicts, answers}
use Rattle.auction.specs.Demands.{Outcome}
use Rattle.auction.proofs.Orders.{canonical_run}
use Rattle.auction.proofs.Proved.{demand_2}

module _ (a : Auction) (present : List ℕ) where
  pub always : Marks
  always round = present

  -- these hear every round, nobody else hears or says anything
  pub alone : Attendance
  alone =
      record {
        hears = λ own. cond (is_present present own) (rounds a) 0;
        speaks = λ own round. false;
        elsewhere = λ own round place at. 0;
        asks = λ own. true;
      }

  pub alone_attends : Attends a always alone
  unfolding always alone
  alone_attends round own h j1 here = rw here (omega arith)

  module _ (A : IsAuction a) (c : Coins) (C : InRange a c) (E : Enough a.n present) (desk : Desk) (D : Complete a.k desk) where
    abbrev l : List Call
    l = canonical a c always desk alone

    run : Run a c always l
    run = canonical_run a c always desk D alone alone_attends

    module _ (j : ℕ) (j1 : 1 ≤ j) (jn : j ≤ a.n) where
      its : Outcome a (cond (is_present present j) (rounds a) 0) true l j
      unfolding always alone run canonical_run
      its = (demand_2 a A c C always (λ round h. E)).outcome l run j j1 jn

      -- each of them is told the price
      pub told_the_price : is_present present j ≡ true → (m : ℕ) × (answers j l ≡ replicate (suc m) (the_answer (price_answer a) (length (verdicts j l))))
      told_the_price here =
          let all : length (hearings j l) ≡ rounds a = its.heard ∙ ap (λ b. min (cond b (rounds a) 0) (rounds a)) here ∙ omega arith in
          let some = its.once_over.0 (all, refl) in
          let m : ℕ = its.asked - 1 in
          let e : its.asked ≡ suc m = omega arith in
          (m, its.cleared ∙ ap (λ (k : ℕ). replicate k (the_answer (price_answer a) (length (verdicts j l)))) e)

      -- and nobody else is needed
      pub hears_nothing : is_present present j ≡ false → length (hearings j l) ≡ 0
      hears_nothing away = its.heard ∙ ap (λ b. min (cond b (rounds a) 0) (rounds a)) away ∙ omega arith
