-- The lines of one kind, row by row, and those of all kinds, kind by kind: how long they are, and writing them each where the last one ended.
-- By what is left: the lines of the rows from i on.
use Rattle.std.specs.Prelude.{ℕ, ◌+◌, ◌-◌, ◌^◌, ◌<◌, ◌≤◌, ◌≡◌, List, [], ◌∷◌, ◌++◌, sum_by, refl, length, get_or, take, drop}
use Rattle.std.proofs.Common.{arith, add-one, ap, ◌∙◌, subst, append_assoc, append-nil, drop_of_length-le}
use Rattle.std.proofs.Math.ListN.{length-append}
use Rattle.std.proofs.Math.Seq.{drop-cons}
use Rattle.std.proofs.lemmas.List.Sums.{sum_by-cons}
use Rattle.lists.specs.Lists.{each}
use Rattle.lists.specs.Buffers.{Writes, WritesFrom}
use Rattle.lists.proofs.Laws.Buffers.{Unwritten, unwritten-all, part-inside, part-fits, unwritten-part, written_on, unwritten-none, written_from}
use Rattle.model.specs.Meaning.{most_of_drawing}
use Rattle.forms.specs.declared.LineKind.{LineKind}
use Rattle.forms.specs.declared.LineKind.TheVariants.{Class, Name, May, Node, Edge}
use Rattle.printing.specs.Written.{row_text}
use Rattle.writing.specs.Lines.{rows_text, file_of_rows}

-- # The lines of one kind
module _ (kind : LineKind) (rows : List ℕ) where
  -- those that are left when i are done
  abbrev lines_from : ℕ → List ℕ
  lines_from i = rows_text kind (drop i rows)

  lines_next : (i : ℕ) → i < length rows → lines_from i ≡ row_text kind (get_or rows i 0) ++ lines_from (i + 1)
  unfolding rows_text
  lines_next i h = rw (add-one i, drop-cons rows i 0 h)

  lines_none : (i : ℕ) → length rows ≤ i → lines_from i ≡ []
  unfolding rows_text
  lines_none i h = rw (drop_of_length-le rows {i = i} h)

  -- how long they are, as a sum over the rows
  pub rows-summed : sum_by (λ row. length (row_text kind row)) rows ≡ length (rows_text kind rows)
  unfolding rows_text
  rows-summed = all rows
    where
      all : (rs : List ℕ) → sum_by (λ row. length (row_text kind row)) rs ≡ length (each rs (row_text kind))
      all [] = refl
      all (r ∷ rs) = sum_by-cons (λ row. length (row_text kind row)) r rs ∙ omega (arith, all rs, length-append (row_text kind r) (each rs (row_text kind)))

-- `count` bytes are the lines of i rows
pub record Summed (kind : LineKind) (rows : List ℕ) (count i : ℕ) : Type 0 where
  pub short : length (rows_text kind rows) ≤ most_of_drawing
  pub left : count + length (lines_from kind rows i) ≡ length (rows_text kind rows)

module _ {kind : LineKind} {rows : List ℕ} {count i : ℕ} (s : Summed kind rows count i) where
  module _ (h : i < length rows) {r : ℕ} (line : r ≡ length (row_text kind (get_or rows i 0))) where
    split : length (lines_from kind rows i) ≡ r + length (lines_from kind rows (i + 1))
    split =
        ap length (lines_next kind rows i h) ∙ length-append (row_text kind (get_or rows i 0)) (lines_from kind rows (i + 1)) ∙ omega (arith, line)

    pub summed-room : count + r < 2 ^ 64
    summed-room = omega (arith, s.left, s.short, split)

    pub summed-next : Summed kind rows (count + r) (i + 1)
    summed-next = record { short = s.short; left = omega (arith, s.left, split) }

  pub summed-all : length rows ≤ i → (count ≡ length (rows_text kind rows)) × (count ≤ most_of_drawing)
  summed-all h = let none = ap length (lines_none kind rows i h) in (omega (arith, s.left), omega (arith, s.left, s.short))

-- the lines of i rows are written, from a place on
pub record Lined (kind : LineKind) (rows : List ℕ) (from : ℕ) (before : List ℕ) (at i : ℕ) (now : List ℕ) : Type 0 where
  pub room : from + length (rows_text kind rows) ≤ length before
  pub left : Unwritten (take from before ++ rows_text kind rows) before (lines_from kind rows i) at now

module _ {kind : LineKind} {rows : List ℕ} {from : ℕ} {before : List ℕ} {at i : ℕ} {now : List ℕ} (l : Lined kind rows from before at i now) where
  abbrev whole : List ℕ
  whole = take from before ++ rows_text kind rows

  module _ (h : i < length rows) where
    abbrev line : List ℕ
    line = row_text kind (get_or rows i 0)

    here : Unwritten whole before (line ++ lines_from kind rows (i + 1)) at now
    here = subst (λ t. Unwritten whole before t at now) (lines_next kind rows i h) l.left

    pub line-fits : length line ≤ length (take (length now - at) (drop at now))
    line-fits = part-fits line (lines_from kind rows (i + 1)) here

    module _ {taken : ℕ} {after : List ℕ} (w : Writes line (take (length now - at) (drop at now)) taken after) where
      pub lined-next : Lined kind rows from before (at + taken) (i + 1) (take at now ++ (after ++ drop (length now - at) (drop at now)))
      lined-next = record { room = l.room; left = unwritten-part line (lines_from kind rows (i + 1)) here w }

  pub lined-all : length rows ≤ i → WritesFrom (rows_text kind rows) from before at now
  lined-all h =
      written_from (rows_text kind rows) from before l.room (subst (λ t. Unwritten whole before t at now) (lines_none kind rows i h) l.left)

-- # The lines of all kinds
module _ (classes names permitted nodes edges : List ℕ) where
  abbrev file : List ℕ
  file = file_of_rows classes names permitted nodes edges

  file-bytes : length file
      ≡ length (rows_text Class classes) + length (rows_text Name names) + length (rows_text May permitted) + length (rows_text Node nodes)
      + length (rows_text Edge edges)
  unfolding file_of_rows
  file-bytes = simp length-append

  pub file-counted : {a b c d e : ℕ} → a ≡ length (rows_text Class classes) → b ≡ length (rows_text Name names) → c ≡ length (rows_text May permitted)
      → d ≡ length (rows_text Node nodes) → e ≡ length (rows_text Edge edges) → a + b + c + d + e ≡ length file
  file-counted la lb lc ld le = omega (arith, file-bytes)

  -- how long they are
  module _ (short : length file ≤ most_of_drawing) where
    pub classes-short : length (rows_text Class classes) ≤ most_of_drawing
    classes-short = omega (arith, file-bytes)

    pub names-short : length (rows_text Name names) ≤ most_of_drawing
    names-short = omega (arith, file-bytes)

    pub permitted-short : length (rows_text May permitted) ≤ most_of_drawing
    permitted-short = omega (arith, file-bytes)

    pub nodes-short : length (rows_text Node nodes) ≤ most_of_drawing
    nodes-short = omega (arith, file-bytes)

    pub edges-short : length (rows_text Edge edges) ≤ most_of_drawing
    edges-short = omega (arith, file-bytes)

  -- writing them: what is left when the classes are written, then the names, ..
  abbrev after_permitted : List ℕ
  after_permitted = rows_text Node nodes ++ (rows_text Edge edges ++ [])

  abbrev after_names : List ℕ
  after_names = rows_text May permitted ++ after_permitted

  abbrev after_classes : List ℕ
  after_classes = rows_text Name names ++ after_names

  file-split : file ≡ rows_text Class classes ++ after_classes
  unfolding file_of_rows
  file-split = simp (append_assoc, append-nil)

  module _ (before : List ℕ) (fits : length file ≤ length before) where
    none_written : Unwritten file before (rows_text Class classes ++ after_classes) 0 before
    none_written = subst (λ t. Unwritten file before t 0 before) file-split (unwritten-all fits)

    pub classes-fit : 0 + length (rows_text Class classes) ≤ length before
    classes-fit = part-inside (rows_text Class classes) after_classes none_written

    module _ {a : ℕ} {na : List ℕ} (wa : WritesFrom (rows_text Class classes) 0 before a na) where
      classes-written : Unwritten file before after_classes a na
      classes-written = written_on (rows_text Class classes) after_classes none_written wa

      pub names-fit : a + length (rows_text Name names) ≤ length na
      names-fit = part-inside (rows_text Name names) after_names classes-written

      module _ {b : ℕ} {nb : List ℕ} (wb : WritesFrom (rows_text Name names) a na b nb) where
        names-written : Unwritten file before after_names b nb
        names-written = written_on (rows_text Name names) after_names classes-written wb

        pub permitted-fit : b + length (rows_text May permitted) ≤ length nb
        permitted-fit = part-inside (rows_text May permitted) after_permitted names-written

        module _ {c : ℕ} {nc : List ℕ} (wc : WritesFrom (rows_text May permitted) b nb c nc) where
          permitted-written : Unwritten file before after_permitted c nc
          permitted-written = written_on (rows_text May permitted) after_permitted names-written wc

          pub nodes-fit : c + length (rows_text Node nodes) ≤ length nc
          nodes-fit = part-inside (rows_text Node nodes) (rows_text Edge edges ++ []) permitted-written

          module _ {d : ℕ} {nd : List ℕ} (wd : WritesFrom (rows_text Node nodes) c nc d nd) where
            nodes-written : Unwritten file before (rows_text Edge edges ++ []) d nd
            nodes-written = written_on (rows_text Node nodes) (rows_text Edge edges ++ []) permitted-written wd

            pub edges_fit : d + length (rows_text Edge edges) ≤ length nd
            edges_fit = part-inside (rows_text Edge edges) [] nodes-written

            pub file-written : {e : ℕ} {ne : List ℕ} → WritesFrom (rows_text Edge edges) d nd e ne → Writes file before e ne
            file-written we = unwritten-none (written_on (rows_text Edge edges) [] nodes-written we)
