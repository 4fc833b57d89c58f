-- Drawing files: a file that opens is the file of what it opens to; how long it can be, and that a longer text is decided by its first part.
-- The file's lines are, key by key, the rows of the scheme and of the drawing; each line's checks are what soundness says of its row.
use Rattle.std.specs.Prelude.{ℕ, ◌≤◌, ◌≡◌, refl, List, map, length, take}
use Rattle.std.proofs.Common.{arith, ◌∙◌, sym, append_assoc, append-nil}
use Rattle.std.proofs.Math.Path.{ap, fun_ext}
use mathlib.Core.List.Memᴰ
use Rattle.lists.specs.Lists.{◌∈◌}
use Rattle.lists.proofs.Laws.Lists.{each_append}
use Rattle.lists.proofs.Laws.Places.{by-places}
use Rattle.lists.proofs.Laws.Maps.{each_map, map_back}
use Rattle.lists.proofs.Laws.Count.{within-length}
use Rattle.model.specs.Graph.{Scheme, Instance, row}
use Rattle.model.specs.Operations.{node_row}
use Rattle.model.specs.Refusals.{accepted, ◌>>=◌}
use Rattle.model.specs.Files.{numbers_of, read, triple_of}
use Rattle.model.specs.Files.DrawingFile.{DrawingKey, class=, name=, may=, node=, edge=, drawing_form, DrawingLines, drawing_format, Contents}
use Rattle.model.specs.Files.DrawingFile.{declared_of, node_of, scheme_in, instance_in, read_drawing, declared_row, file_text}
use Rattle.model.specs.Meaning.{line_count, most_of_drawing, enough_of_drawing}
use Rattle.model.proofs.Laws.Outcomes.{then-accepted}
use Rattle.model.proofs.Laws.Lines.{text_of, Regular, Readable, accepted-readable}
use Rattle.model.proofs.Laws.Passing.{Passing, readable-passing, within-key, passing-in-order}
use Rattle.model.proofs.Laws.Bounds.{most_lines, most_bytes, enough, accepted-size, first_part}
use Rattle.model.proofs.Laws.Keys.{lines_by, by-keys}

-- keys stand in the document's order, and every key's lines are limited
pub drawing-regular : Regular drawing_format
unfolding drawing_format
drawing-regular = record { spelled-apart = refl; turns-rise = refl; plain = refl; numbered = refl; limited = refl }

pub drawing-key : (k : DrawingKey) → k ∈ drawing_format.keys
unfolding drawing_format
drawing-key class= = Memᴰ.head refl
drawing-key name= = Memᴰ.tail (Memᴰ.head refl)
drawing-key may= = Memᴰ.tail (Memᴰ.tail (Memᴰ.head refl))
drawing-key node= = Memᴰ.tail (Memᴰ.tail (Memᴰ.tail (Memᴰ.head refl)))
drawing-key edge= = Memᴰ.tail (Memᴰ.tail (Memᴰ.tail (Memᴰ.tail (Memᴰ.head refl))))

-- # Bounds
most-lines : most_lines drawing_format ≡ 1152
unfolding drawing_format
most-lines = refl

most_bytes_lem : most_bytes drawing_format ≡ most_of_drawing
unfolding drawing_format
most_bytes_lem = refl

enough-file : enough drawing_format ≡ 20106
unfolding drawing_format
enough-file = refl

-- # What an accepted file holds
abbrev pub contents_in : DrawingLines → Contents
contents_in ls = record { scheme = scheme_in ls; instance = instance_in ls }

-- the lines of an accepted file
pub record Opened (t : List ℕ) (c : Contents) : Type 0 where
  pub lines : DrawingLines
  pub readable : Readable drawing_format t lines
  pub holds : contents_in lines ≡ c

-- an accepted file has such lines
pub drawing-opened : (t : List ℕ) (c : Contents) → read_drawing t ≡ accepted c → Opened t c
unfolding read_drawing
drawing-opened t c h =
    let r = (then-accepted (read drawing_format t) (λ ls. accepted (contents_in ls)) c).0 h in
    record { lines = r.0; readable = accepted-readable drawing_format t r.0 r.1; holds = accepted-same r.2 }
  where
    accepted-same : {a b : Contents} → accepted a ≡ accepted b → a ≡ b
    accepted-same e = cc

-- an accepted file has at most 1152 lines and 20032 bytes
pub drawing-size : (t : List ℕ) (c : Contents) → read_drawing t ≡ accepted c → (line_count t ≤ 1152) × (length t ≤ most_of_drawing)
unfolding read_drawing
drawing-size t c h =
    let r = (then-accepted (read drawing_format t) (λ ls. accepted (contents_in ls)) c).0 h in
    omega (arith, most-lines, most_bytes_lem, accepted-size drawing_format drawing-regular t r.0 r.1)

-- a longer text is read as its first part is, and refused with the same line
pub drawing-first-part : (n : ℕ) → enough_of_drawing ≤ n → (t : List ℕ) → read_drawing t ≡ read_drawing (take n t)
unfolding read_drawing
drawing-first-part n h t =
    ap (λ o. o >>= λ ls. accepted (contents_in ls)) (first_part drawing_format drawing-regular (drawing-key class=) n (omega (arith, enough-file)) t)

-- # The file of a scheme and a drawing
abbrev pub rows_of : Scheme → Instance → DrawingKey → List (List ℕ)
rows_of s d class= = map declared_row s.classes
rows_of s d name= = map declared_row s.names
rows_of s d may= = map row s.permitted
rows_of s d node= = map node_row d.nodes
rows_of s d edge= = map row d.edges

abbrev pub file_lines : Scheme → Instance → DrawingLines
file_lines s d = lines_by (rows_of s d) drawing_format.keys

-- a file is the text of these lines
pub file-text : (s : Scheme) (d : Instance) → file_text s d ≡ text_of drawing_format (file_lines s d)
unfolding file_text drawing_format
file-text s d = simp (each_append, each_map, append-nil, append_assoc)

-- # A file that opens saves byte for byte
module _ (ls : DrawingLines) (h : Passing drawing_format ls) where
  as_long : (k : DrawingKey) (x : List ℕ) → x ∈ numbers_of drawing_form k ls → length x ≡ length (drawing_form k).below
  unfolding drawing_format
  as_long k x i = within-length (drawing_form k).below x (within-key drawing_format drawing-regular k (drawing-key k) ls h.in-form x i)

  -- what lines hold has the lines' numbers as its rows
  pub rows_in_lem : (k : DrawingKey) → rows_of (scheme_in ls) (instance_in ls) k ≡ numbers_of drawing_form k ls
  rows_in_lem class= = map_back declared_row declared_of (numbers_of drawing_form class= ls) (λ x i. by-places 2 x (as_long class= x i))
  rows_in_lem name= = map_back declared_row declared_of (numbers_of drawing_form name= ls) (λ x i. by-places 2 x (as_long name= x i))
  rows_in_lem may= = map_back row triple_of (numbers_of drawing_form may= ls) (λ x i. by-places 3 x (as_long may= x i))
  rows_in_lem node= = map_back node_row node_of (numbers_of drawing_form node= ls) (λ x i. by-places 3 x (as_long node= x i))
  rows_in_lem edge= = map_back row triple_of (numbers_of drawing_form edge= ls) (λ x i. by-places 3 x (as_long edge= x i))

  file-back : file_text (scheme_in ls) (instance_in ls) ≡ text_of drawing_format ls
  unfolding drawing_format
  file-back =
      file-text (scheme_in ls) (instance_in ls)
      ∙ ap (λ rows. text_of drawing_format (lines_by rows drawing_format.keys)) (fun_ext rows_in_lem)
      ∙ ap (text_of drawing_format) (sym (by-keys drawing_format drawing-regular ls h.in-form (passing-in-order drawing_format drawing-regular ls h)))

-- a file that opens is the file of what it opens to
pub write_read : (t : List ℕ) (c : Contents) → read_drawing t ≡ accepted c → file_text c.scheme c.instance ≡ t
write_read t c h =
    let o = drawing-opened t c h in
    ap (λ (d : Contents). file_text d.scheme d.instance) (sym o.holds)
    ∙ file-back o.lines (readable-passing drawing_format o.readable)
    ∙ sym o.readable.written.text

-- a scheme and drawing have one file
pub one-text : (t u : List ℕ) (c : Contents) → read_drawing t ≡ accepted c → read_drawing u ≡ accepted c → t ≡ u
one-text t u c h g = sym (write_read t c h) ∙ write_read u c g
