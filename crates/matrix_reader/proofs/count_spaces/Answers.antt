-- `matrix_reader::count_spaces` meets its contract: what the iterator yields is the spaces at the front.
-- Assumes nothing.
use borrow.Author.Rules.{rules}
use borrow.Author.Tests.{tests}
use mathlib.Core.Path.{◌∙◌}
use Rattle.std.proofs.lemmas.Iterator.{YieldsList-from_slice}
use Rattle.std.proofs.lemmas.Iterator.Consumers.{count_from_yields_List}
use Rattle.std.proofs.lemmas.Iterator.Search.{YieldsList-from_take_while}
use Rattle.std.proofs.lemmas.List.Folds.{length-prefix_len}
use Rattle.matrixfile.specs.Read.{is_space}
use Rattle.matrix_reader.specs.PartLaws.{prefix_leading}
use Rattle.matrix_reader.proofs.count_spaces.Goals as goal

pub returns : goal.returns
returns c =
    count_from_yields_List _ _ c.count.ensures.ran
    (YieldsList-from_take_while _ is_space (YieldsList-from_slice c.args.text.now cc) (cc) (cc) (λ x b q k. search (rules, tests)))
    ∙ length-prefix_len is_space c.args.text.now ∙ prefix_leading is_space c.args.text.now
