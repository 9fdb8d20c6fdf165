-- Where a record is lent, a reply's number is the call's code: what needs no record the call judges beside the record, by its first test, so
-- that it is 1 whatever the record. Assumes nothing.
use mathlib.Core.Path.{◌≡◌, sym, ap, ◌∙◌}
use mathlib.Core.Bool.{Bool, true, false, not, ◌&&◌}
use mathlib.Core.List.{List}
use Prim.Native.Nat.{ℕ}
use Rattle.refusal.specs.Refusal.{code_of}
use Rattle.refusal.specs.Refusal.{Judgement}
use Rattle.ranges.specs.Sizes.{party, listed, long}
use Rattle.ways.specs.Way.{is_way}
use Rattle.roll.specs.Marks.{is_bidder}
use Rattle.record.specs.declared.Party.{Party}
use Rattle.record.specs.Record.{sound, replied}
use Rattle.record.proofs.Replies.{reply_judgement}
use Rattle.session.specs.Open.{open_judgement, open_reply}
use Rattle.session.specs.Add.{add_judgement, add_reply}
use Rattle.record_words.specs.Words.{record_size, number_on, code_on}
use Rattle.record_words.proofs.Lent.{with_record, with_record_code}

module _ (words : List ℕ) (lent : not (long record_size words) ≡ false) where
  told : (judgement : Judgement) (next old : Party) (in_range : Bool) → code_on words in_range judgement ≡ code_of judgement
      → number_on words (code_of (replied judgement next old).judgement) ≡ code_on words in_range judgement
  told judgement next old in_range e = with_record words _ _ lent ∙ ap code_of (reply_judgement judgement next old) ∙ sym e

  pub opens : (n own k last : ℕ) (totals : List ℕ)
      → number_on words (code_of (open_reply n own k last totals).judgement)
      ≡ code_on words (party n own && listed k && is_way last) (open_judgement n own k last totals)
  unfolding open_judgement
  opens n own k last totals = told _ _ _ _ (with_record_code words true (party n own && listed k && is_way last) _ lent)

  pub adds : (q : Party) (totals : List ℕ) (bidder : ℕ) (shares : List ℕ)
      → number_on words (code_of (add_reply q totals bidder shares).judgement) ≡ code_on words (is_bidder bidder) (add_judgement q totals bidder shares)
  unfolding add_judgement
  adds q totals bidder shares = told _ _ _ _ (with_record_code words (sound q) (is_bidder bidder) _ lent)
