use Rattle.std.proofs.Common.{rules, tests, eqb, sym, ◌∙◌}
use Rattle.std.proofs.lemmas.Iterator.{YieldsList-from_slice}
use Rattle.std.proofs.lemmas.Iterator.Search.{position_from_yields_List}
use Rattle.trace.proofs.Splitting.{cut_first}
use Rattle.trace.proofs.splits.split_once.Goals as goal

pub returns : goal.returns
returns c =
    let place =
    position_from_yields_List (λ b. eqb b c.args.mark) _ _ _ c.position.ensures.ran (YieldsList-from_slice c.args.text.now cc)
    (λ x b q k. search (rules, tests)) in
    cut_first c.args.mark c.in_ok-at.at c.args.text.now (sym place ∙ search rules)
