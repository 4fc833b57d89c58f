-- `text::lines::line_of` meets its contract: what stands before the byte = is looked up, and what follows it is read. Assumes nothing.
use native.Mathlib.Omega.{arith}
use Rattle.std.proofs.Common.{refl, ◌≡◌, ◌∙◌, eqb}
use borrow.Author.Rules.{rules}
use Rattle.std.specs.Prelude.{position}
use Rattle.std.proofs.lemmas.Iterator.{YieldsList-from_slice}
use Rattle.std.proofs.lemmas.Iterator.Search.{position_from_yields_List}
use Rattle.numerals.specs.Scan.{up_to}
use Rattle.text.specs.Laws.Parsing.{equals-at, equals-before, equals-nowhere, without-equals, two-equals, equals-again, no-equals-again}
use Rattle.text.specs.Laws.Parsing.{parted, sought-nowhere, sought-not, sought-read}
use Rattle.text.proofs.lines.line_of.Goals as goal

pub returns-in_err-equals : goal.returns-in_err-equals
returns-in_err-equals c =
    let sought : c.position.result ≡ position (λ b. eqb b 61) c.args.s.now =
    position_from_yields_List (λ b. eqb b 61) _ _ _ c.position.ensures.ran (YieldsList-from_slice c.args.s.now cc) (λ x b q k. search rules) in
    c.from_residual.ensures ∙ without-equals c.args.s.now (equals-nowhere c.args.s.now sought c.in_err-equals.was) c.args.kinds.now refl

pub returns-then-contains : goal.returns-then-contains
returns-then-contains c =
    let sought : c.position.result ≡ position (λ b. eqb b 61) c.args.s.now =
    position_from_yields_List (λ b. eqb b 61) _ _ _ c.position.ensures.ran (YieldsList-from_slice c.args.s.now cc) (λ x b q k. search rules) in
    let at : c.in_ok-equals.equals ≡ up_to 61 c.args.s.now = equals-at c.args.s.now sought c.in_ok-equals.was in
    two-equals c.args.s.now at (λ e. absurd (omega (arith, equals-before c.args.s.now sought c.in_ok-equals.was))) refl c.args.kinds.now (equals-again _ c.contains.ensures.value c.if-contains.true)

pub returns-in_err-kind : goal.returns-in_err-kind
returns-in_err-kind c =
    let sought : c.position.result ≡ position (λ b. eqb b 61) c.args.s.now =
    position_from_yields_List (λ b. eqb b 61) _ _ _ c.position.ensures.ran (YieldsList-from_slice c.args.s.now cc) (λ x b q k. search rules) in
    let at : c.in_ok-equals.equals ≡ up_to 61 c.args.s.now = equals-at c.args.s.now sought c.in_ok-equals.was in
    let p = parted c.args.s.now at (λ e. absurd (omega (arith, equals-before c.args.s.now sought c.in_ok-equals.was))) refl (λ i. (c.type_inv.s i).fits) (no-equals-again _ c.contains.ensures.value c.if-contains.false) in
    c.from_residual-in_err-kind.ensures ∙ sought-nowhere p c.args.kinds.now c.key_of.ensures c.kind_with.ensures c.in_err-kind.was

pub returns-in_err-row : goal.returns-in_err-row
returns-in_err-row c =
    let sought : c.position.result ≡ position (λ b. eqb b 61) c.args.s.now =
    position_from_yields_List (λ b. eqb b 61) _ _ _ c.position.ensures.ran (YieldsList-from_slice c.args.s.now cc) (λ x b q k. search rules) in
    let at : c.in_ok-equals.equals ≡ up_to 61 c.args.s.now = equals-at c.args.s.now sought c.in_ok-equals.was in
    let p = parted c.args.s.now at (λ e. absurd (omega (arith, equals-before c.args.s.now sought c.in_ok-equals.was))) refl (λ i. (c.type_inv.s i).fits) (no-equals-again _ c.contains.ensures.value c.if-contains.false) in
    c.from_residual-in_err-row.ensures
    ∙ sought-not p c.args.kinds.now c.key_of.ensures c.kind_with.ensures c.in_ok-kind.was c.row_of.ensures c.in_err-row.was

pub returns : goal.returns
returns c =
    let sought : c.position.result ≡ position (λ b. eqb b 61) c.args.s.now =
    position_from_yields_List (λ b. eqb b 61) _ _ _ c.position.ensures.ran (YieldsList-from_slice c.args.s.now cc) (λ x b q k. search rules) in
    let at : c.in_ok-equals.equals ≡ up_to 61 c.args.s.now = equals-at c.args.s.now sought c.in_ok-equals.was in
    let p = parted c.args.s.now at (λ e. absurd (omega (arith, equals-before c.args.s.now sought c.in_ok-equals.was))) refl (λ i. (c.type_inv.s i).fits) (no-equals-again _ c.contains.ensures.value c.if-contains.false) in
    sought-read p c.args.kinds.now c.key_of.ensures c.kind_with.ensures c.in_ok-kind.was c.row_of.ensures c.in_ok-row.was
