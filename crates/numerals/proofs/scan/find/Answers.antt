-- `numerals::scan::find` meets its contract: where the byte is found, or the length. Assumes nothing.
use Rattle.std.proofs.Common.{◌≡◌, rules, ◌∙◌, ap, eqb, length, unwrap_or}
use Rattle.std.specs.Prelude.{position}
use Rattle.std.proofs.lemmas.Iterator.{YieldsList-from_slice}
use Rattle.std.proofs.lemmas.Iterator.Search.{position_from_yields_List}
use Rattle.numerals.specs.Laws.Scan.{up_to-found}
use Rattle.numerals.proofs.scan.find.Goals as goal

pub returns : goal.returns
returns c =
    let found : c.position.result ≡ position (λ b. eqb b c.args.byte) c.args.s.now =
    position_from_yields_List (λ b. eqb b c.args.byte) _ _ _ c.position.ensures.ran (YieldsList-from_slice c.args.s.now cc) (λ x b q k. search rules) in
    c.unwrap_or.ensures ∙ ap (λ r. unwrap_or r (length c.args.s.now)) found ∙ up_to-found c.args.byte c.args.s.now
