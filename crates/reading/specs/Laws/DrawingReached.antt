-- Reading a drawing file line by line: the scheme and the instance are those that the lines read so far hold, and a line adds what it says.
use Prim.Native.Nat.{ℕ, suc, ◌/◌, ◌%◌, ◌≤◌, ◌<◌}
use Rattle.std.proofs.Common.{arith, ◌∙◌, sym, subst, inr, ⊎_elim, length-append}
use Rattle.std.specs.Prelude.{◌≡◌, refl, true, length, ltb, Some, option_map, IfSome, Result, Ok, Err}
use Rattle.std.specs.Bool.{⊤}
use Rattle.std.proofs.Math.Path.{ap, ap₂}
use Rattle.std.proofs.Math.Bool.{Bool}
use Rattle.std.proofs.lemmas.Bool.{false≢true}
use mathlib.Core.List.Memᴰ
use mathlib.Core.List.{List, [], ◌∷◌, ◌++◌, map}
use Rattle.lists.specs.Lists.{all, last_of}
use Rattle.lists.specs.Order.{rising}
use Rattle.lists.proofs.Laws.Lists.{all-members, less, in-append}
use Rattle.lists.proofs.Laws.Order.{before-cons}
use Rattle.lists.specs.Radix.{unrank}
use Rattle.lists.proofs.Laws.OneMore.{last-of-append, rising-last}
use Rattle.model.specs.Limits
use Rattle.model.specs.Graph.{Declared, Scheme, Instance, row, nodes_rise}
use Rattle.model.specs.Sound.{Sound}
use Rattle.model.specs.Refusals.{accepted, refused, ◌>>=◌}
use Rattle.model.specs.Files.{follows, full}
use Rattle.model.specs.Files.DrawingFile.{DrawingKey, class=, name=, may=, node=, edge=, drawing_form, DrawingLines, scheme_in, instance_in}
use Rattle.model.specs.Files.DrawingFile.{drawing_format, read_drawing}
use Rattle.model.proofs.Laws.Graph.{ListedDeclarations, listed-scheme, listed-instance}
use Rattle.model.proofs.Laws.Sound.{well-formed}
use Rattle.model.proofs.Laws.DrawingFiles.{contents_in}
use Rattle.model.specs.declared.Refusal.{Refusal}
use Rattle.model.specs.declared.Refusal.TheVariants.{Malformed}
use Rattle.forms.specs.Forms.{of_drawing, drawing_key}
use Rattle.text.specs.Lines.{drawing_line, Tabled, FreshLast}
use Rattle.forms.specs.Laws.Kinds.{drawing-kind}
use Rattle.text.specs.Laws.Lines.{drawing-follows, follows-above}
use Rattle.text.specs.declared.lines.Line.{Line as PackedLine}
use Rattle.text.specs.declared.lines.Last.{Last}
use Rattle.graph.specs.Packed.{unpack_triple, unpack_node}
use Rattle.verdicts.specs.Verdicts.{verdict}
use Rattle.verdicts.specs.NextLine.{LineAt, NoLineAt}
use Rattle.verdicts.proofs.Laws.Verdicts.{verdict_of}
use Rattle.verdicts.proofs.Laws.LineByLine.{Upto, upto-none, upto_next, out-of-form-read, failing-line-read, whole-read}
use Rattle.standing.specs.Held.{scheme_with, instance_with}
use Rattle.drawing_lines.specs.DrawingLines.{drawing_verdict, line_checks, lines_above}
use Rattle.reading.specs.Laws.DrawingLines.{row_line, passing-sound, scheme-with, instance-with, line-verdict}

-- the text is read up to a place
pub record Reached (text : List ℕ) (at : ℕ) (last : Last) (s : Scheme) (d : Instance) : Type 0 where
  pub above : DrawingLines
  pub upto : Upto drawing_format text at last.lines above
  pub final : option_map drawing_line last.line ≡ last_of above
  pub tabled : IfSome last.line Tabled
  pub kind : IfSome last.line (λ a. of_drawing a.kind ≡ true)
  pub scheme : s ≡ scheme_in above
  pub instance : d ≡ instance_in above

-- # The start
pub reached-none : (text : List ℕ) (last : Last) → FreshLast last
    → Reached text 0 last (record { classes = []; names = []; permitted = [] }) (record { nodes = []; edges = [] })
reached-none text last h =
    let none_read = h.none in
    let line = h.line in
    record {
      above = [];
      upto = upto-none drawing_format text none_read;
      final = rw line;
      tabled = rw line tt;
      kind = rw line tt;
      scheme = refl;
      instance = refl;
    }

-- # Room for what a line adds
-- a declared number is in range, and all declared ones are below it; of the others there are fewer than may be
abbrev pub RoomFor : Scheme → Instance → DrawingKey → (row : ℕ) → Type 0
RoomFor s d class= r = (r / 2 < Limits.classes) × (all (λ c. ltb c.number (r / 2)) s.classes ≡ true)
RoomFor s d name= r = (r / 2 < Limits.names) × (all (λ c. ltb c.number (r / 2)) s.names ≡ true)
RoomFor s d may= r = length s.permitted < Limits.permitted
RoomFor s d node= r = length d.nodes < Limits.nodes
RoomFor s d edge= r = length d.edges < Limits.edges

declared-last : (below : ℕ) (ds : List Declared) (c : Declared) → ListedDeclarations below (ds ++ (c ∷ []))
    → (c.number < below) × (all (λ b. ltb b.number c.number) ds ≡ true)
declared-last below ds c h = (
  (h.within c ((in-append ds (c ∷ [])).1 (inr (Memᴰ.head refl)))).0,
  (all-members (λ b. ltb b.number c.number) ds).1 (λ b i.
      (less b.number c.number).1
      (⊎_elim (λ m. m) (λ q. absurd (false≢true q.1))
      ((before-cons b.number c.number [] []).0 (rising-last (λ e. e.number ∷ []) ds c h.rise b i)))),
)

one_more : {A : Type 0} {most : ℕ} (xs : List A) (x : A) → length (xs ++ (x ∷ [])) ≤ most → length xs < most
one_more xs x h = omega (arith, length-append xs (x ∷ []))

sound-room : (s : Scheme) (d : Instance) (k : DrawingKey) (r : ℕ) → Sound (scheme_with s k r) (instance_with d k r) → RoomFor s d k r
unfolding scheme_with instance_with
sound-room s d class= r h = declared-last Limits.classes s.classes (record { number = r / 2; kind = r % 2 }) ((listed-scheme _).0 h.scheme).classes
sound-room s d name= r h = declared-last Limits.names s.names (record { number = r / 2; kind = r % 2 }) ((listed-scheme _).0 h.scheme).names
sound-room s d may= r h = one_more s.permitted (unpack_triple r) ((listed-scheme _).0 h.scheme).few
sound-room s d node= r h = one_more d.nodes (unpack_node r) ((listed-instance _ _).0 h.listed).graph.few-nodes
sound-room s d edge= r h = one_more d.edges (unpack_triple r) ((listed-instance _ _).0 h.listed).graph.few-edges

-- # The line at the place
abbrev key_of : PackedLine → DrawingKey
key_of l = drawing_key l.kind

line-by-key : (l : PackedLine) → of_drawing l.kind ≡ true → drawing_line l ≡ row_line (key_of l) l.row
line-by-key l h = ap (λ k. record { key = key_of l; numbers = unrank k.rooms l.row }) (drawing-kind l.kind h)

module _ {text : List ℕ} {at : ℕ} {last : Last} {s : Scheme} {d : Instance} (reached : Reached text at last s d) where
  -- a line out of form
  pub out-of-form-refused : NoLineAt drawing_format text at → read_drawing text ≡ refused (Malformed (suc last.lines))
  unfolding read_drawing
  out-of-form-refused n = rw (out-of-form-read reached.upto n)

  module _ {l : PackedLine} {next : ℕ} (stands : LineAt drawing_format text at (drawing_line l) next) (tabled : Tabled l)
      (kind : of_drawing l.kind ≡ true) where
    -- the verdict on the line is that of the definition
    verdict-here : drawing_verdict s d last l ≡ verdict_of drawing_format reached.above (drawing_line l)
    unfolding drawing_verdict
    verdict-here =
        let k = key_of l in
        let above = reached.above in
        let by : ℕ → Bool → Scheme → Instance → Result ⊤ Refusal =
        λ n a z i. verdict (suc n) a (full (drawing_form k).most (lines_above z i k)) (line_checks z i k l.row) in
        let line = line-by-key l kind in
        let in-turn = follows-above drawing_form drawing_line above last.line l reached.final
        (λ a e. drawing-follows a l (subst (λ o. IfSome o (λ b. of_drawing b.kind ≡ true)) e reached.kind) kind)
        ∙ ap (follows drawing_form (last_of above)) line in
        ap₂ (λ n a. by n a s d) reached.upto.counted in-turn
        ∙ ap₂ (by (length above) (follows drawing_form (last_of above) (row_line k l.row))) reached.scheme reached.instance
        ∙ line-verdict above reached.upto.passing k l.row (rw line at stands.in-form)
        ∙ ap (verdict_of drawing_format above) (sym line)

    -- a line that fails is refused as it fails
    pub failing-refused : (x : Refusal) → drawing_verdict s d last l ≡ Err x → read_drawing text ≡ refused x
    unfolding read_drawing
    failing-refused x e = rw (failing-line-read reached.upto stands (sym verdict-here ∙ e))

    -- a line that passes is read, and what it says is added
    pub reached-next : drawing_verdict s d last l ≡ Ok tt
        → Reached text next (record { lines = suc last.lines; line = Some l }) (scheme_with s (drawing_key l.kind) l.row)
        (instance_with d (drawing_key l.kind) l.row)
    reached-next e =
        let above = reached.above in
        let line = line-by-key l kind in
        record {
          above = above ++ (drawing_line l ∷ []);
          upto = upto_next reached.upto stands (sym verdict-here ∙ e);
          final = sym (last-of-append above (drawing_line l));
          tabled = tabled;
          kind = kind;
          scheme =
              ap (λ z. scheme_with z (key_of l) l.row) reached.scheme
              ∙ sym (scheme-with above (key_of l) l.row)
              ∙ ap (λ m. scheme_in (above ++ (m ∷ []))) (sym line);
          instance =
              ap (λ i. instance_with i (key_of l) l.row) reached.instance
              ∙ sym (instance-with above (key_of l) l.row)
              ∙ ap (λ m. instance_in (above ++ (m ∷ []))) (sym line);
        }

  -- # What stands
  pub reached-sound : Sound s d
  reached-sound = rw (reached.scheme, reached.instance) (passing-sound reached.above reached.upto.passing)

  -- it can be searched by halving, and is within the limits
  pub triples-rise : rising (map row s.permitted) ≡ true
  triples-rise = ((listed-scheme s).0 reached-sound.scheme).rise

  pub numbers-rise : nodes_rise d ≡ true
  numbers-rise = (well-formed s d reached-sound).nodes-rise

  -- at the end, what stands is what the text holds
  pub reached-end : length text ≤ at → read_drawing text ≡ accepted (record { scheme = s; instance = d })
  unfolding read_drawing drawing_format
  reached-end h =
      ap (λ o. o >>= λ ls. accepted (contents_in ls)) (whole-read reached.upto h)
      ∙ ap₂ (λ z i. accepted (record { scheme = z; instance = i })) (sym reached.scheme) (sym reached.instance)

-- where a line passes, there is room for what it adds
pub passing-room : {text : List ℕ} {at : ℕ} {last : Last} {s : Scheme} {d : Instance} {l : PackedLine} {next : ℕ} → Reached text at last s d
    → LineAt drawing_format text at (drawing_line l) next → Tabled l → of_drawing l.kind ≡ true → drawing_verdict s d last l ≡ Ok tt
    → RoomFor s d (drawing_key l.kind) l.row
passing-room {s = s} {d = d} {l = l} reached stands tabled kind e =
    sound-room s d (key_of l) l.row (reached-sound (reached-next reached stands tabled kind e))
