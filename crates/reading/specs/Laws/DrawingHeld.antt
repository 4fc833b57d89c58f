-- Reading a drawing file: what holds whenever the next line is read, and the answer that comes of it. What stands in the drawing is the scheme
-- and the instance of the lines above.
use Rattle.std.specs.Prelude.{ℕ, ◌+◌, ◌-◌, ◌^◌, ◌≤◌, ◌<◌, ◌≡◌, refl, true, List, map, length, take, Option, None, Some, Result, Ok, Err}
use Rattle.std.specs.Bool.{⊤}
use Rattle.std.proofs.Common.{arith, add-one, ◌∙◌, length-take-le}
use Rattle.std.proofs.Math.Path.{sym}
use Rattle.std.proofs.lemmas.Bool.{false≢true}
use Rattle.std.proofs.lemmas.List.{length-map}
use Rattle.model.specs.Limits
use Rattle.model.specs.Refusals.{accepted}
use Rattle.model.specs.Files.DrawingFile.{drawing_format, read_drawing}
use Rattle.model.specs.declared.Refusal.{Refusal}
use Rattle.model.specs.declared.Refusal.TheVariants.{Malformed}
use Rattle.forms.specs.Forms.{of_drawing, drawing_key}
use Rattle.forms.specs.declared.LineKind.{LineKind}
use Rattle.forms.specs.declared.LineKind.TheVariants.{Class, Name, May, Node, Edge}
use Rattle.text.specs.Lines.{drawing_line, DrawingParsed, Tabled, FreshLast}
use Rattle.text.specs.declared.lines.Line.{Line}
use Rattle.text.specs.declared.lines.Last.{Last}
use Rattle.graph.specs.Packed.{unpack_triple, unpack_node, unpack_scheme, unpack_instance, StoredScheme, StoredInstance}
use Rattle.verdicts.specs.NextLine.{LineAt, Unended, LineBytes}
use Rattle.standing.specs.Held.{Fits, Held, FreshDrawing, Room, KeptLine}
use Rattle.verdicts.proofs.Laws.NextLine.{unended-no-line, next-line-read, no-line-read}
use Rattle.verdicts.proofs.Laws.Pieces.{begins, IsRest}
use Rattle.drawing_lines.specs.DrawingLines.{drawing_verdict, Coming}
use Rattle.reading.specs.Readers.{ReadDrawing}
use Rattle.standing.specs.declared.Drawing.{Drawing}
use Rattle.reading.specs.declared.whole.Whole.{Whole}
use Rattle.reading.specs.Laws.DrawingReached.{Reached, RoomFor, passing-room, reached-none, reached-next, reached-end}
use Rattle.reading.specs.Laws.DrawingReached.{reached-sound, triples-rise, numbers-rise, out-of-form-refused, failing-refused}

-- the text is read up to a place, and what the lines above it hold stands in the drawing
pub record ReadTo (text : List ℕ) (at : ℕ) (last : Last) (d : Drawing) : Type 0 where
  pub reached : Reached text at last (unpack_scheme d.scheme) (unpack_instance d.instance)
  pub fits : Fits d

pub read-to-start : (text : List ℕ) {last : Last} {d : Drawing} → FreshDrawing d → FreshLast last → ReadTo text 0 last d
read-to-start text {last} f h = record { reached = rw (f.scheme, f.instance) (reached-none text last h); fits = f.fits }

-- fewer keys stand than there is room for
stand-fewer : {A : Type 0} (f : ℕ → A) (n : ℕ) (keys : List ℕ) (most : ℕ) → length keys ≡ most → n ≤ most → length (map f (take n keys)) < most → n < most
stand-fewer f n keys most e h q = omega (arith, length-map (take n keys) f, length-take-le n keys (omega arith))

-- room for what a line adds is room in the arrays
room-held : (d : Drawing) → Fits d → (kind : LineKind) (row : ℕ) → of_drawing kind ≡ true
    → RoomFor (unpack_scheme d.scheme) (unpack_instance d.instance) (drawing_key kind) row → Room d (record { kind = kind; row = row })
unfolding unpack_scheme unpack_instance
room-held d f Class row h q = record { kind = h; room = q }
room-held d f Name row h q = record { kind = h; room = q }
room-held d f May row h q =
    record { kind = h; room = stand-fewer unpack_triple d.scheme.permissions d.scheme.permitted Limits.permitted f.permitted_room f.permissions q }
room-held d f Node row h q =
    record { kind = h; room = stand-fewer unpack_node d.instance.order d.instance.nodes Limits.nodes f.nodes_room f.order q }
room-held d f Edge row h q =
    record { kind = h; room = stand-fewer unpack_triple d.instance.size d.instance.edges Limits.edges f.edges_room f.size q }
room-held d f _ row h q = absurd (false≢true h)

module _ {text : List ℕ} {at : ℕ} {last : Last} {d : Drawing} (r : ReadTo text at last d) where
  -- what stands can be searched
  pub read-to-held : Held d
  read-to-held = record { fits = r.fits; triples = triples-rise r.reached; numbers = numbers-rise r.reached }

  module _ (left : at < length text) where
    -- no byte 10 ends the line
    pub unended-read : Unended text at → ReadDrawing text (Err (Malformed (last.lines + 1)))
    unended-read u = sym (rw add-one (out-of-form-refused r.reached (unended-no-line drawing_format text at left u)))

    module _ {s : List ℕ} (found : LineBytes text at s) {o : Option Line} (parsed : DrawingParsed s o) where
      -- a line out of form
      pub malformed-read : o ≡ None → ReadDrawing text (Err (Malformed (last.lines + 1)))
      malformed-read n =
          sym
          (rw add-one (out-of-form-refused r.reached (no-line-read drawing_format text at left found drawing_line parsed.line n)))

      -- the next line
      module _ {l : Line} (is : o ≡ Some l) where
        abbrev next : ℕ
        next = at + length s + 1

        stands : LineAt drawing_format text at (drawing_line l) next
        stands = next-line-read drawing_format text at left found drawing_line parsed.line is

        tabled : Tabled l
        tabled = (parsed.tabled l is).0

        kind : of_drawing l.kind ≡ true
        kind = (parsed.tabled l is).1

        -- less of the text is left after it
        pub read-to-less : length text - next < length text - at
        read-to-less = omega (arith, stands.later, stands.within)

        pub read-to-coming : last.lines + 1 < 2 ^ 64 → Coming last l
        read-to-coming h =
            record { above = r.reached.tabled; few = omega arith; tabled = tabled; kind = kind; in-form = stands.in-form }

        module _ {v : Result ⊤ Refusal} (asked : v ≡ drawing_verdict (unpack_scheme d.scheme) (unpack_instance d.instance) last l) where
          pub failing-read : {x : Refusal} → v ≡ Err x → ReadDrawing text (Err x)
          failing-read {x} e = sym (failing-refused r.reached stands tabled kind x (sym asked ∙ e))

          module _ (e : v ≡ Ok tt) where
            pub read-to-room : Room d l
            read-to-room = room-held d r.fits l.kind l.row kind (passing-room r.reached stands tabled kind (sym asked ∙ e))

            pub read-to-next : {d' : Drawing} → KeptLine d l d' → ReadTo text (at + (length s + 1)) (record { lines = last.lines + 1; line = Some l }) d'
            read-to-next k =
                let there : at + (length s + 1) ≡ next = omega arith in
                record {
                  reached = rw (there, add-one last.lines, k.scheme, k.instance) (reached-next r.reached stands tabled kind (sym asked ∙ e));
                  fits = k.fits;
                }

  -- at the end, what stands is the answer, and stored as it should be
  pub read-to-end : length text ≤ at → accepted (record { scheme = unpack_scheme d.scheme; instance = unpack_instance d.instance }) ≡ read_drawing text
  read-to-end h = sym (reached-end r.reached h)

  pub scheme-stored : StoredScheme d.scheme
  unfolding unpack_scheme
  scheme-stored =
      record { classes = r.fits.classes; names = r.fits.names; few = r.fits.permissions; listed = (reached-sound r.reached).scheme }

  pub instance-stored : StoredInstance (unpack_scheme d.scheme) d.instance
  unfolding unpack_scheme unpack_instance
  instance-stored = record { few_nodes = r.fits.order; few_edges = r.fits.size; sound = reached-sound r.reached }

-- # Piece by piece
-- the text is read up to what is left of it
pub record Reading (text rest : List ℕ) (last : Last) (d : Drawing) : Type 0 where
  pub here : IsRest text rest
  pub read : ReadTo text (begins text rest) last d

pub reading-start : (text : List ℕ) {last : Last} {d : Drawing} → FreshDrawing d → FreshLast last → Reading text text last d
reading-start text f h =
    let start : begins text text ≡ 0 = omega arith in
    record { here = rw start refl; read = rw start (read-to-start text f h) }

-- fewer lines than bytes are read
pub reading-few : {text rest : List ℕ} {last : Last} {d : Drawing} → Reading text rest last d → begins text rest < length text → last.lines < length text
reading-few r left = omega (arith, left, r.read.reached.upto.few)

-- # What was accepted
pub read-scheme : (w : Whole) → StoredScheme w.scheme
read-scheme w = w.scheme_stored

pub read-instance : (w : Whole) → StoredInstance (unpack_scheme w.scheme) w.instance
read-instance w = w.instance_stored
