-- `deal` meets its contract: nothing is written unless the call is accepted. Assumes nothing.
use Rattle.std.proofs.Common.{Ok, Err}
use Rattle.std.proofs.lemmas.Result.{err_from_is_err_and}
use mathlib.Core.Path.{◌≡◌, sym, ap, ap₂, ◌∙◌}
use mathlib.Core.List.{List}
use Prim.Native.Nat.{ℕ, ◌+◌, ◌*◌}
use native.Mathlib.Omega.{arith}
use Rattle.sharing.specs.Scheme.{threshold}
use Rattle.dealer.specs.Deal.{deal_judgement, preprocessing, deal_left}
use Rattle.ways.specs.Way.{way_of, triples_of}
use Rattle.ways.proofs.Laws.{few_triples, drawn_split, sheet_split}
use Rattle.refusal.proofs.Judging.{kept_new, kept_old}
use Rattle.dealer.proofs.Laws.{deals}
use Rattle.dealer.proofs.deal.Goals as goal
use Rattle.dealer.proofs.deal.Goals.{In_ok-judge}

yes : (c : In_ok-judge) → deal_judgement c.args.n c.args.own c.args.last c.args.words.now c.args.bytes.now c.args.sheet.now ≡ Ok tt
yes c = sym c.judge.ensures ∙ c.in_ok-judge.was

-- what was written then
written : (n own last m t : ℕ) (words drawn sheet now : List ℕ) → deal_judgement n own last words drawn sheet ≡ Ok tt → m ≡ triples_of (way_of last) → t ≡ threshold n
    → now ≡ preprocessing m t own words drawn → now ≡ deal_left n own last words drawn sheet
written n own last m t words drawn sheet now yes f e w =
    w ∙ ap₂ (λ (m t : ℕ). preprocessing m t own words drawn) f e ∙ sym (kept_new _ (preprocessing (triples_of (way_of last)) (threshold n) own words drawn) sheet yes)

pub write-requires : goal.write-requires
write-requires c =
    let h = deals _ _ _ _ _ _ (yes (goal.at.write-requires c).In_ok-judge) in
    let t = c.threshold.ensures in
    let m = c.triples.ensures in (
      omega (arith, h.party.own_most, h.party.parties_most),
      h.words_long ∙ ap (λ (m : ℕ). 1 + m) (sym t),
      h.drawn_long ∙ drawn_split _ _ ∙ ap₂ (λ (m t : ℕ). 33 * t + m * (2 + 3 * t)) (sym m) (sym t),
      h.sheet_long ∙ sheet_split _ ∙ ap (λ (m : ℕ). 34 + 3 * m) (sym m),
      rw m (few_triples _),
      omega (arith, t, h.party.parties_most),
    )

pub returns-in_err-judge : goal.returns-in_err-judge
returns-in_err-judge c =
    let p = err_from_is_err_and c.from_residual.result c.from_residual.ensures.1 in
    let a = c.args in
    let no : deal_judgement a.n a.own a.last a.words.now a.bytes.now a.sheet.now ≡ Err c.in_err-judge.field-0.0 = sym c.judge.ensures ∙ c.in_err-judge.was in
    (p.1 ∙ ap Err p.2 ∙ sym no, sym (kept_old _ _ _ _ no))

pub returns : goal.returns
returns c =
    let a = c.args in
    let y = yes (goal.at.returns c).In_ok-judge in (
      sym y,
      written a.n a.own a.last c.triples.result c.threshold.result
          a.words.now a.bytes.now a.sheet.now _ y c.triples.ensures c.threshold.ensures c.write.ensures,
    )
