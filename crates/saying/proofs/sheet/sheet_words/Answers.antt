-- `sheet_words` meets its contract. Assumes nothing.
use mathlib.Core.Path.{sym, ◌∙◌}
use native.Mathlib.Omega.{arith}
use Rattle.message.proofs.Sheets.{probe_words, total_words}
use Rattle.saying.proofs.sheet.sheet_words.Goals as goal

pub returns-then-q-le33 : goal.returns-then-q-le33
returns-then-q-le33 c = c.sheet_words.ensures ∙ sym (probe_words c.args.q (omega arith))

pub returns-else-q-le33 : goal.returns-else-q-le33
returns-else-q-le33 c = sym (total_words c.args.q (omega arith))
