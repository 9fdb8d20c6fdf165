-- `write_words` meets its contract. Assumes nothing.
use mathlib.Core.Path.{sym, ◌∙◌}
use native.Mathlib.Omega.{arith}
use lib.ListN.{length-set}
use lib.Seq.{take_all}
use Rattle.ranges.proofs.Loops.{fill}
use Rattle.level.specs.Level.{level_words}
use Rattle.level.proofs.Laws.{words_many}
use Rattle.level.proofs.Level.write_words.Goals as goal

pub loop-j-preserved : goal.loop-j-preserved
loop-j-preserved c =
    let l = c.loop-j in
    let s = c.args.self.now in
    let words = level_words s.round s.sum s.kept.now s.sheet.now in (
      length-set l.said l.j c.word.result ∙ l.invariant.0,
      fill l.said words l.j c.word.result (omega arith) (omega (arith, words_many s.round s.sum s.kept.now s.sheet.now s.ready, l.invariant.0)) c.word.ensures l.invariant.1,
    )

pub returns : goal.returns
returns c =
    let l = c.loop-j in
    let s = c.args.self.now in
    let words = level_words s.round s.sum s.kept.now s.sheet.now in
    let m = words_many s.round s.sum s.kept.now s.sheet.now s.ready in
    sym (take_all l.j l.said (omega arith)) ∙ l.invariant.1 ∙ take_all l.j words (omega (arith, m, l.invariant.0))
