-- Reading a rule text line by line: what stands is gathered from the rows of the lines read so far, and a line adds what it says.
use Prim.Native.Nat.{ℕ, suc, ◌≤◌, ◌<◌}
use Rattle.std.proofs.Common.{arith, ◌∙◌, length-take-le}
use Rattle.std.specs.Prelude.{◌≡◌, refl, false, ◌&&◌, Some, IfSome, Result, Ok, Err}
use Rattle.std.specs.Bool.{⊤}
use Rattle.std.proofs.Math.Path.{ap, ap₂, sym, subst}
use Rattle.std.proofs.Math.Bool.{Bool, true}
use mathlib.Core.List.{List, [], ◌∷◌, ◌++◌, map}
use Rattle.lists.specs.Lists.{last_of}
use Rattle.std.proofs.Math.ListN.{length}
use Rattle.lists.specs.Order.{rising}
use Rattle.model.specs.Limits
use Rattle.model.specs.Graph.{Scheme, Pattern, row, scheme_listed}
use Rattle.model.specs.Operations.{Action, Rule}
use Rattle.model.specs.Refusals.{accepted, refused}
use Rattle.model.specs.Files.{Line, full, follows}
use Rattle.model.specs.Files.RuleText.{RuleKey, arm=, rule_form, RuleLines, rule_in, rule_format, read_rule}
use Rattle.model.specs.InForm.{LineInForm}
use Rattle.model.proofs.Laws.Passing.{meets-iff}
use Rattle.model.proofs.Laws.RuleActions.{rule-is-sound}
use Rattle.model.specs.declared.Refusal.{Refusal}
use Rattle.model.specs.declared.Refusal.TheVariants.{Malformed}
use Rattle.forms.specs.Forms.{of_drawing, rule_key}
use Rattle.graph.specs.Operations.{code_of}
use Rattle.text.specs.Lines.{rule_line, Tabled, FreshLast, follows_last}
use Rattle.text.specs.Laws.Lines.{rule-follows, follows-above}
use Rattle.text.specs.declared.lines.Line.{Line as PackedLine}
use Rattle.text.specs.declared.lines.Last.{Last}
use Rattle.graph.specs.Packed.{unpack_triple, pattern_of, unpack_pattern, unpack_action, unpack_rule, StoredRule}
use Rattle.graph.specs.declared.rule.PackedRule.{PackedRule}
use Rattle.verdicts.specs.Verdicts.{verdict}
use Rattle.verdicts.specs.NextLine.{LineAt, NoLineAt}
use Rattle.verdicts.proofs.Laws.Verdicts.{verdict_of, verdict-passes}
use Rattle.verdicts.proofs.Laws.LineByLine.{Upto, upto-none, upto_next, out-of-form-read, failing-line-read, whole-read}
use Rattle.rule_lines.specs.RuleLines.{line_checks, lines_above, placed, rule_verdict, FitsRule, HeldRule, RowFits}
use Rattle.rules.specs.Rules.{Parts, parts_of}
use Rattle.rules.specs.Rules.{parts_in, with, is_complete}
use Rattle.rules.specs.Readers.{ReadRule}
use Rattle.rules.specs.Laws.RuleRows.{row_line, line_row, Rows, HasRows, rows-with, rows_with, gathered, gathered-with}
use Rattle.rules.specs.Laws.RuleContents.{pattern-rows, action_of, action-coded, action-rows}
use Rattle.rules.specs.Laws.RuleOrder.{Ends, last-above, last-kind, ruled, later_rows, arm-head, edges-rise}
use Rattle.rules.specs.Laws.RuleLines.{line-verdict, complete-same}

-- the rule that is accepted
ok-is : (P : PackedRule → Type 0) {d e : PackedRule} → ◌≡◌ {A = Result PackedRule Refusal} (Ok d) (Ok e) → P d → P e
ok-is P {d} {e} i p = let same : d ≡ e = cc in subst P same p

-- the text is read up to a place
pub record Reached (s : Scheme) (text : List ℕ) (at : ℕ) (last : Last) (t : Parts) : Type 0 where
  pub above : RuleLines
  pub upto : Upto (rule_format s) text at last.lines above
  pub ends : Ends last.line above
  pub tabled : IfSome last.line Tabled
  pub rows : Rows
  pub have-rows : HasRows above rows
  pub held : t ≡ gathered rows

-- # The start
pub reached-none : (s : Scheme) (text : List ℕ) (last : Last) → FreshLast last
    → Reached s text 0 last (record { code = 0; nodes = []; edges = []; head = 0; parts = [] })
reached-none s text last h =
    record {
      above = [];
      upto = upto-none (rule_format s) text h.none;
      ends = rw h.line refl;
      tabled = rw h.line tt;
      rows = λ k. [];
      have-rows = λ k. refl;
      held = refl;
    }

-- # The line at the place
module _ {s : Scheme} {text : List ℕ} {at : ℕ} {last : Last} {t : Parts} (reached : Reached s text at last t) where
  abbrev above : RuleLines
  above = reached.above

  -- a line out of form
  pub out-of-form-refused : NoLineAt (rule_format s) text at → read_rule s text ≡ refused (Malformed (suc last.lines))
  unfolding read_rule
  out-of-form-refused n = rw (out-of-form-read reached.upto n)

  module _ {l : PackedLine} {next : ℕ} (stands : LineAt (rule_format s) text at (rule_line l) next) (tabled : Tabled l) (kind : of_drawing l.kind ≡ false) where
    abbrev k : RuleKey
    k = rule_key l.kind

    line : rule_line l ≡ row_line k l.row
    line = line_row l tabled kind

    in-form : LineInForm (rule_format s) (row_line k l.row)
    in-form = rw line at stands.in-form

    in-turn : follows_last last.line l ≡ follows rule_form (last_of above) (row_line k l.row)
    in-turn =
        follows-above rule_form rule_line above last.line l (last-above last.line above reached.ends)
        (λ a e. rule-follows a l (last-kind last.line above reached.ends a e) kind)
        ∙ ap (follows rule_form (last_of above)) line

    -- an arm line in its turn comes under no head but that of a make line, whose class is one
    head-below : follows_last last.line l ≡ true → rule_key l.kind ≡ arm= → t.head < Limits.classes
    head-below f e =
        let x = l.row in
        rw reached.held
        (arm-head s above reached.upto.passing reached.rows reached.have-rows x
        (subst (λ j. LineInForm (rule_format s) (row_line j x)) e in-form)
        (subst (λ j. follows rule_form (last_of above) (row_line j x) ≡ true) e (sym in-turn ∙ f)))

    pub row_fits : follows_last last.line l ≡ true → RowFits t.head l
    unfolding rule_format
    row_fits f =
        record {
          kind = kind;
          tabled = tabled;
          in-form = λ z. record { listed = stands.in-form.listed; limited = stands.in-form.limited };
          under = head-below f;
        }

    -- # The verdict on the line, told from a stored rule
    module _ (listed : scheme_listed s ≡ true) (r : PackedRule) (fits : FitsRule r) (stored : parts_of r ≡ t) where
      verdict-here : rule_verdict s r last l ≡ verdict_of (rule_format s) above (rule_line l)
      unfolding rule_verdict unpack_pattern
      verdict-here =
          let x = l.row in
          let a = r.action in
          let crowd : Pattern → ℕ → Bool = λ p n. full (rule_form k).most (lines_above p n k) in
          let by : ℕ → Bool → Parts → Result ⊤ Refusal =
          λ n f u.
          let p = pattern_of u.nodes u.edges in
          verdict (suc n) (f && placed last.line u.code k x) (crowd p (length u.parts)) (line_checks s p u.head k x) in
          let p = unpack_pattern r.pattern in
          let count : a.count ≡ length (parts_in r) = sym (length-take-le a.count a.parts (omega (arith, fits.parts_room, fits.count))) in
          ap (λ n. verdict (suc last.lines) (follows_last last.line l && placed last.line (code_of a.operation) k x) (crowd p n) (line_checks s p a.head k x)) count
          ∙ ap₂ (λ n f. by n f (parts_of r)) reached.upto.counted in-turn
          ∙ ap (by (length above) (follows rule_form (last_of above) (row_line k x))) (stored ∙ reached.held)
          ∙ line-verdict s above reached.upto.passing reached.rows reached.have-rows last.line reached.ends listed k x in-form
          ∙ ap (verdict_of (rule_format s) above) (sym line)

      -- a line that fails is refused as it fails
      pub failing-refused : (x : Refusal) → rule_verdict s r last l ≡ Err x → read_rule s text ≡ refused x
      unfolding read_rule
      failing-refused x e = rw (failing-line-read reached.upto stands (sym verdict-here ∙ e))

      -- a line that passes is read, and what it says is added
      pub reached-next : rule_verdict s r last l ≡ Ok tt
          → Reached s text next (record { lines = suc last.lines; line = Some l }) (with t (rule_key l.kind) l.row)
      unfolding rule_format
      reached-next e =
          let x = l.row in
          let rows = reached.rows in
          let have = reached.have-rows in
          let pass = (verdict-passes (rule_format s) above (rule_line l)).0 (sym verdict-here ∙ e) in
          let follow : follows rule_form (last_of above) (row_line k x) ≡ true = rw line at ((meets-iff (rule_format s) above (rule_line l)).0 pass).in-turn in
          record {
            above = above ++ (rule_line l ∷ []);
            upto = upto_next reached.upto stands (sym verdict-here ∙ e);
            ends = record { front = above; split = refl; kind = kind };
            tabled = tabled;
            rows = rows_with rows k x;
            have-rows = subst (λ (m : Line RuleKey). HasRows (above ++ (m ∷ [])) (rows_with rows k x)) (sym line) (rows-with above rows k x have);
            held =
                ap (λ u. with u k x) reached.held
                ∙ gathered-with rows x k (later_rows s above reached.upto.passing rows have k x in-form follow);
          }

  -- # What stands
  reached-edges : rising (map row (map unpack_triple t.edges)) ≡ true
  reached-edges = rw reached.held (edges-rise s above reached.upto.passing reached.rows reached.have-rows)

  pub reached-held : (r : PackedRule) → FitsRule r → parts_of r ≡ t → HeldRule r
  unfolding unpack_pattern
  reached-held r fits stored =
      record { fits = fits; edges = ap (λ (u : Parts). rising (map row (map unpack_triple u.edges))) stored ∙ reached-edges }

  -- # The end
  complete-here : is_complete last.line t.code ≡ (rule_format s).complete above
  complete-here =
      ap (λ u. is_complete last.line u.code) reached.held
      ∙ complete-same s above reached.upto.passing reached.rows reached.have-rows last.line reached.ends

  rule-held : (r : PackedRule) → parts_of r ≡ t → unpack_rule r ≡ rule_in above
  unfolding unpack_rule unpack_pattern unpack_action
  rule-held r stored =
      let rule : Parts → Rule = λ u. record { pattern = pattern_of u.nodes u.edges; action = action_of u } in
      let rows = reached.rows in
      let have = reached.have-rows in
      ap (λ (a : Action). record { pattern = unpack_pattern r.pattern; action = a })
      (action-coded r.action.operation (parts_of r).nodes (parts_of r).edges r.action.head (parts_in r))
      ∙ ap rule (stored ∙ reached.held)
      ∙ ap₂ (λ (p : Pattern) (a : Action). record { pattern = p; action = a })
      (sym (pattern-rows above rows have)) (sym (action-rows above rows have (ruled s above reached.upto.passing rows have)))

  -- at the end, what stands is what the text holds, if no line is missing
  reached-end : length text ≤ at → is_complete last.line t.code ≡ true → (r : PackedRule) → parts_of r ≡ t → read_rule s text ≡ accepted (unpack_rule r)
  unfolding read_rule
  reached-end h c r stored = rw (whole-read reached.upto h, ← complete-here, c) (ap accepted (sym (rule-held r stored)))

  pub missing-refused : length text ≤ at → is_complete last.line t.code ≡ false → read_rule s text ≡ refused (Malformed (suc last.lines))
  unfolding read_rule
  missing-refused h c = rw (whole-read reached.upto h, ← complete-here, c)

  pub read-accepted : scheme_listed s ≡ true → length text ≤ at → is_complete last.line t.code ≡ true → (r : PackedRule) → FitsRule r → parts_of r ≡ t
      → ReadRule s text (Ok r)
  unfolding unpack_rule
  read-accepted listed h c r fits stored =
      let e = reached-end h c r stored in
      let sound = rule-is-sound s text (unpack_rule r) listed e in
      record {
        answer = sym e;
        rule =
            λ k i.
            ok-is (StoredRule s) i
            record {
              pattern = record { few_nodes = fits.order; few_edges = fits.size; listed = sound.listed; conforming = sound.conforming };
              few = fits.count;
              suited = sound.suited;
            };
      }

pub read-refused : (s : Scheme) (text : List ℕ) (x : Refusal) → read_rule s text ≡ refused x → ReadRule s text (Err x)
read-refused s text x e = record { answer = sym e; rule = λ k i. let z : ◌≡◌ {A = ℕ} 0 1 = cc in absurd (omega arith) }
