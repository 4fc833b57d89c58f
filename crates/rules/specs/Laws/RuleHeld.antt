-- Reading a rule text, with what stands kept in a stored rule: what holds whenever the next line is read, and the answer that comes of it.
use Rattle.std.specs.Prelude.{ℕ, ◌+◌, ◌-◌, ◌^◌, ◌≤◌, ◌<◌, ◌≡◌, refl, Bool, true, false, List, [], map, length, Option, None, Some, Result, Ok, Err}
use Rattle.std.specs.Bool.{⊤}
use Rattle.std.proofs.Common.{arith, add-one, sym, ◌∙◌, leb-false}
use Rattle.lists.specs.Order.{rising}
use Rattle.model.specs.Limits
use Rattle.model.specs.Graph.{Scheme, row, scheme_listed}
use Rattle.model.specs.Files.{full}
use Rattle.model.specs.Files.RuleText.{rule_format, RuleKey, op=, pnode=, pedge=, make=, arm=, put=, drop=, cut=, group=, rule_form}
use Rattle.model.proofs.Laws.Graph.{listed-scheme}
use Rattle.model.specs.declared.Refusal.{Refusal}
use Rattle.model.specs.declared.Refusal.TheVariants.{Malformed}
use Rattle.lists.specs.Radix.{within, unrank}
use Rattle.lists.proofs.Laws.Lists.{both, less}
use Rattle.model.specs.InForm.{LineInForm}
use Rattle.forms.specs.Forms.{of_drawing, rule_key, rule_kind}
use Rattle.forms.specs.Laws.Kinds.{rule-kind}
use Rattle.text.specs.Lines.{rule_line, RuleParsed, Tabled, FreshLast}
use Rattle.graph.specs.Operations.{code_of}
use Rattle.text.specs.declared.lines.Line.{Line}
use Rattle.text.specs.declared.lines.Last.{Last}
use Rattle.graph.specs.Packed.{FreshRule, unpack_pattern}
use Rattle.graph.specs.declared.rule.PackedRule.{PackedRule}
use Rattle.verdicts.specs.NextLine.{LineAt, Unended, LineBytes}
use Rattle.verdicts.proofs.Laws.NextLine.{unended-no-line, next-line-read, no-line-read}
use Rattle.verdicts.proofs.Laws.Pieces.{begins, IsRest}
use Rattle.verdicts.proofs.Laws.Verdicts.{uncrowded}
use Rattle.rule_lines.specs.RuleLines.{rule_verdict, FitsRule, HeldRule, Coming, lines_above}
use Rattle.rule_lines.specs.Laws.RuleVerdict.{pattern-order, pattern-size}
use Rattle.rules.specs.Rules.{Room, parts_of, KeptRule, is_complete, HasRoomFor}
use Rattle.rules.specs.Readers.{ReadRule}
use Rattle.rules.specs.Laws.RuleReached.{Reached, reached-none, reached-next, reached-held, out-of-form-refused, failing-refused, missing-refused}
use Rattle.rules.specs.Laws.RuleReached.{row_fits, read-accepted, read-refused}

-- # Room for what a line adds
-- a line that passes finds room
room-left : (s : Scheme) (r : PackedRule) (last : Last) (l : Line) → FitsRule r → LineInForm (rule_format s) (rule_line l) → of_drawing l.kind ≡ false
    → rule_verdict s r last l ≡ Ok tt → Room r l
unfolding rule_verdict lines_above rule_format
room-left s r last l fits in-form kind e =
    record { kind = kind; room = go (rule_key l.kind) (rw (rule-kind l.kind kind) at in-form.limited) (uncrowded _ _ _ _ e) }
  where
    go : (k : RuleKey) → within (rule_form k).below (unrank (rule_kind k).rooms l.row) ≡ true
        → full (rule_form k).most (lines_above (unpack_pattern r.pattern) r.action.count k) ≡ false → HasRoomFor r k l.row
    go op= w c = let small = simp (both, less) at w in omega arith
    go pnode= w c = omega (arith, pattern-order r fits, leb-false Limits.pattern_nodes (length (unpack_pattern r.pattern).nodes) c)
    go pedge= w c = omega (arith, pattern-size r fits, leb-false Limits.pattern_edges (length (unpack_pattern r.pattern).edges) c)
    go make= w c = tt
    go arm= w c = leb-false Limits.arms r.action.count c
    go put= w c = leb-false Limits.puts r.action.count c
    go drop= w c = tt
    go cut= w c = leb-false Limits.cuts r.action.count c
    go group= w c = tt

-- # A fresh rule
fresh-fits : (r : PackedRule) → FreshRule r → FitsRule r
fresh-fits r h =
    let p = h.pattern in
    let a = h.action in
    record {
      nodes_room = p.nodes_room;
      edges_room = p.edges_room;
      parts_room = a.room;
      order = omega (arith, p.order);
      size = omega (arith, p.size);
      count = omega (arith, a.none);
    }

fresh-parts : (r : PackedRule) → FreshRule r → parts_of r ≡ record { code = 0; nodes = []; edges = []; head = 0; parts = [] }
fresh-parts r h = let p = h.pattern in let a = h.action in rw (p.order, p.size, a.operation, a.head, a.none)

-- # How far a text is read
-- the text is read up to a place, and what the lines above it hold stands in the rule
pub record ReadTo (s : Scheme) (text : List ℕ) (at : ℕ) (last : Last) (r : PackedRule) : Type 0 where
  pub reached : Reached s text at last (parts_of r)
  pub fits : FitsRule r

pub read-to-start : (s : Scheme) (text : List ℕ) {last : Last} {r : PackedRule} → FreshRule r → FreshLast last → ReadTo s text 0 last r
read-to-start s text {last} {r} f h = record { reached = rw (fresh-parts r f) (reached-none s text last h); fits = fresh-fits r f }

-- permitted triples of a listed scheme can be searched
pub triples-rise : (s : Scheme) → scheme_listed s ≡ true → rising (map row s.permitted) ≡ true
triples-rise s h = ((listed-scheme s).0 h).rise

module _ {s : Scheme} {text : List ℕ} {at : ℕ} {last : Last} {r : PackedRule} (read : ReadTo s text at last r) where
  -- what stands can be searched
  pub read-to-held : HeldRule r
  read-to-held = reached-held read.reached r read.fits refl

  -- the end
  module _ (end : length text ≤ at) {b : Bool} (made : b ≡ is_complete last.line (code_of r.action.operation)) where
    pub missing-read : b ≡ false → ReadRule s text (Err (Malformed (last.lines + 1)))
    missing-read c = rw add-one (read-refused s text _ (missing-refused read.reached end (sym made ∙ c)))

    pub complete-read : scheme_listed s ≡ true → b ≡ true → ReadRule s text (Ok r)
    complete-read listed c = read-accepted read.reached listed end (sym made ∙ c) r read.fits refl

  module _ (left : at < length text) where
    -- no byte 10 ends the line
    pub unended-read : Unended text at → ReadRule s text (Err (Malformed (last.lines + 1)))
    unended-read u = rw add-one (read-refused s text _ (out-of-form-refused read.reached (unended-no-line (rule_format s) text at left u)))

    module _ {b : List ℕ} (found : LineBytes text at b) {o : Option Line} (parsed : RuleParsed b o) where
      -- a line out of form
      pub malformed-read : o ≡ None → ReadRule s text (Err (Malformed (last.lines + 1)))
      malformed-read n =
          rw add-one
          (read-refused s text _
          (out-of-form-refused read.reached (no-line-read (rule_format s) text at left found rule_line (parsed.line s) n)))

      -- the next line
      module _ {l : Line} (is : o ≡ Some l) where
        abbrev next : ℕ
        next = at + length b + 1

        stands : LineAt (rule_format s) text at (rule_line l) next
        stands = next-line-read (rule_format s) text at left found rule_line (parsed.line s) is

        tabled : Tabled l
        tabled = (parsed.tabled l is).0

        kind : of_drawing l.kind ≡ false
        kind = (parsed.tabled l is).1

        -- less of the text is left after it
        pub read-to-less : length text - next < length text - at
        read-to-less = omega (arith, stands.later, stands.within)

        pub read-to-coming : last.lines + 1 < 2 ^ 64 → Coming r last l
        read-to-coming h =
            record { above = read.reached.tabled; few = omega arith; kind = kind; tabled = tabled; row = row_fits read.reached stands tabled kind }

        module _ (listed : scheme_listed s ≡ true) {v : Result ⊤ Refusal} (asked : v ≡ rule_verdict s r last l) where
          pub failing-read : {x : Refusal} → v ≡ Err x → ReadRule s text (Err x)
          failing-read {x} e = read-refused s text x (failing-refused read.reached stands tabled kind listed r read.fits refl x (sym asked ∙ e))

          module _ (e : v ≡ Ok tt) where
            pub read-to-room : Room r l
            read-to-room = room-left s r last l read.fits stands.in-form kind (sym asked ∙ e)

            pub read-to-next : {r' : PackedRule} → KeptRule r l r' → ReadTo s text (at + (length b + 1)) (record { lines = last.lines + 1; line = Some l }) r'
            read-to-next k =
                let there : at + (length b + 1) ≡ next = omega arith in
                record {
                  reached =
                      rw (there, add-one last.lines, k.parts) (reached-next read.reached stands tabled kind listed r read.fits refl (sym asked ∙ e));
                  fits = k.fits;
                }

-- # Piece by piece
-- the text is read up to what is left of it
pub record Reading (s : Scheme) (text rest : List ℕ) (last : Last) (r : PackedRule) : Type 0 where
  pub here : IsRest text rest
  pub read : ReadTo s text (begins text rest) last r

pub reading-start : (s : Scheme) (text : List ℕ) {last : Last} {r : PackedRule} → FreshRule r → FreshLast last → Reading s text text last r
reading-start s text f h =
    let start : begins text text ≡ 0 = omega arith in
    record { here = rw start refl; read = rw start (read-to-start s text f h) }

-- fewer lines than bytes are read
pub reading-few : {s : Scheme} {text rest : List ℕ} {last : Last} {r : PackedRule} → Reading s text rest last r → begins text rest < length text
    → last.lines < length text
reading-few r left = omega (arith, left, r.read.reached.upto.few)
