-- `round` meets its contract. Assumes nothing.
use mathlib.Core.Path.{◌≡◌, sym, ap, ap₂, ◌∙◌}
use mathlib.Core.List.{List}
use Prim.Native.Nat.{ℕ, ◌*◌}
use native.Mathlib.Omega.{arith}
use lib.ListN.{length}
use lib.Seq.{length-take-le}
use Rattle.presence.specs.Presence.{everyone}
use Rattle.search.specs.Limit.{most_probes}
use Rattle.panel.specs.Parties.{part}
use Rattle.panel_rounds.specs.Round.{said_by, heard_by, all_said}
use Rattle.panel.proofs.Parts.{prefix_fits, prefix_is, prefix_count, take_replicate, sheets_eighteen, parts_flat, one_part}
use Rattle.panel_rounds.proofs.rounds.round.Goals as goal
use Rattle.panel_rounds.proofs.rounds.round.Goals.{After-most_probes}

pub overflow_mul-lent : goal.overflow_mul-lent
overflow_mul-lent c = omega (arith, c.most_probes.ensures, sheets_eighteen _ c.requires.1)

pub slice_bounds-say_all-end : goal.slice_bounds-say_all-end
slice_bounds-say_all-end c = sym (length-take-le _ _ (omega (arith, c.requires.0)))

-- the parties' sheets are as long as stated
lent_is : (c : After-most_probes) → length c.args.sheets.now ≡ c.args.n * (127 * c.most_probes.result)
lent_is c =
    c.requires.3 ∙ ap (λ (m : ℕ). c.args.n * (127 * m)) (sym c.most_probes.ensures)

pub say_all-requires : goal.say_all-requires
say_all-requires c =
    let p = c.requires in
    let one : c.args.n ≡ c.args.n * 1 = omega arith in
    (p.0, p.1, p.2, lent_is (goal.at.say_all-requires c).After-most_probes, length-take-le _ _ (omega (arith, p.0)) ∙ one)

pub slice_bounds-messages-end-2 : goal.slice_bounds-messages-end-2
slice_bounds-messages-end-2 c = prefix_fits _ _ c.say_all.new.messages c.requires.0 c.messages-2-1.given

pub slice_bounds-hear_all-end : goal.slice_bounds-hear_all-end
slice_bounds-hear_all-end c = prefix_count _ _ c.say_all.new.messages c.requires.0 c.messages-2-1.given

pub slice_bounds-everyone-end : goal.slice_bounds-everyone-end
slice_bounds-everyone-end c = c.requires.0

pub slice_bounds-hear_all-end-2 : goal.slice_bounds-hear_all-end-2
slice_bounds-hear_all-end-2 c = sym (length-take-le _ _ (omega (arith, c.requires.0)))

pub hear_all-requires : goal.hear_all-requires
hear_all-requires c =
    let p = c.requires in
    (p.0, p.1, p.2, lent_is (goal.at.hear_all-requires c).After-most_probes)

pub returns : goal.returns
unfolding all_said
returns c i h =
    let f = c.say_all in
    let a = c.args in
    let e : c.most_probes.result ≡ most_probes a.k = c.most_probes.ensures in
    let zeros = take_replicate {A = ℕ} a.n 9 0 c.requires.0 in
    let one : a.n ≡ a.n * 1 = omega arith in
    let said : List ℕ = f.new.messages in
    let long : length said ≡ a.n * 1 = c.messages-2-1.given ∙ length-take-le _ _ (omega (arith, c.requires.0)) ∙ one in
    let words : said ≡ all_said a.n a.k a.parties a.totals.now a.sheets.now =
    parts_flat 1 a.n _ said long
    (λ j l.
    f.ensures j l
    ∙ ap₂ (λ (lent : ℕ) (words : List ℕ). said_by a.k (127 * lent) a.parties a.totals.now a.sheets.now j words) e
    (ap (part 1 j) zeros ∙ one_part a.n j 0 l)) in
    c.hear_all.ensures i h
    ∙ ap₂ (λ (x y : List ℕ). heard_by a.k (127 * c.most_probes.result) a.parties a.totals.now a.sheets.now x y i)
    (prefix_is _ _ said c.requires.0 c.messages-2-1.given ∙ words) (take_replicate a.n 9 1 c.requires.0)
    ∙ ap (λ (lent : ℕ). heard_by a.k (127 * lent) a.parties a.totals.now a.sheets.now (all_said a.n a.k a.parties a.totals.now a.sheets.now) (everyone a.n) i) e
