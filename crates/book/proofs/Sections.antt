-- An image stands at the front of a buffer exactly when each of its parts stands in its place.
use Prim.Native.Nat.{◌*◌, ◌+◌, ℕ}
use mathlib.Core.Path.{◌∙◌, ◌≡◌, sym}
use mathlib.Core.Bool.{◌&&◌, true}
use mathlib.Core.List.{List, [], ◌++◌, ◌∷◌}
use lib.ListN.{drop, length}
use Rattle.octets.specs.Octets.{be, begins}
use Rattle.octets.proofs.Order.{begins-at}
use Rattle.octets.proofs.Tests.{and_true_both}
use Rattle.entries.specs.Entries.{Entry, names}
use Rattle.book.specs.Records.{records}
use Rattle.book.specs.declared.Layout.{Layout}
use Rattle.book.specs.Book.{buckets, image_in, offsets, peaks, records_at, scores}
use Rattle.frame.proofs.Frame.{framed-parts}
use Rattle.book.proofs.Reading.{length-offsets, length-peaks, length-scores}

module _ (l : Layout) where
  -- where the peaks begin, behind the offsets at 7 + 4 * n
  abbrev pub peaks_at : ℕ → ℕ
  peaks_at n = 7 + 4 * n + 2 * buckets l.heads n

pub record Sections (l : Layout) (es : List Entry) (s : List ℕ) : Type 0 where
  pub has_version : begins (l.version ∷ []) s ≡ true
  pub has_total : begins (be 4 (length (image_in l es))) (drop 1 s) ≡ true
  pub has_count : begins (be 2 (length es)) (drop 5 s) ≡ true
  pub has_scores : begins (scores es) (drop 7 s) ≡ true
  pub has_offsets : begins (offsets l es) (drop (7 + 4 * length es) s) ≡ true
  pub has_peaks : begins (peaks es) (drop (peaks_at l (length es)) s) ≡ true
  pub has_records : begins (records l.heads 0 [] (names es)) (drop (records_at l (length es)) s) ≡ true

module _ (l : Layout) (es : List Entry) (s : List ℕ) where
  abbrev rs : List ℕ
  rs = records l.heads 0 [] (names es)

  -- the parts of the body, one behind the other
  body_parts :
      begins (scores es ++ (offsets l es ++ (peaks es ++ rs))) (drop 7 s)
      ≡ (begins (scores es) (drop 7 s)
      && (begins (offsets l es) (drop (7 + 4 * length es) s)
      && (begins (peaks es) (drop (peaks_at l (length es)) s) && begins rs (drop (records_at l (length es)) s))))
  unfolding records_at
  body_parts =
      rw (
        begins-at (scores es) (offsets l es ++ (peaks es ++ rs)) s 7,
        length-scores es,
        begins-at (offsets l es) (peaks es ++ rs) s (7 + 4 * length es),
        length-offsets l es,
        begins-at (peaks es) rs s (peaks_at l (length es)),
        length-peaks es,
      )

  -- all of them
  pub sections_of : begins (image_in l es) s ≡ true → Sections l es s
  unfolding image_in
  sections_of h =
      let a = and_true_both _ _ (sym (framed-parts l.version (length es) (scores es
      ++ (offsets l es ++ (peaks es ++ rs))) s) ∙ h) in
      let b = and_true_both _ _ a.1 in
      let c = and_true_both _ _ b.1 in
      let d = and_true_both _ _ (sym body_parts ∙ c.1) in
      let e = and_true_both _ _ d.1 in
      let f = and_true_both _ _ e.1 in
      record {
        has_version = a.0;
        has_total = b.0;
        has_count = c.0;
        has_scores = d.0;
        has_offsets = e.0;
        has_peaks = f.0;
        has_records = f.1;
      }

  pub of_sections : Sections l es s → begins (image_in l es) s ≡ true
  unfolding image_in
  of_sections h =
      framed-parts l.version (length es) (scores es ++ (offsets l es ++ (peaks es ++ rs))) s
      ∙ rw (
        h.has_version,
        h.has_total,
        h.has_count,
        body_parts,
        h.has_scores,
        h.has_offsets,
        h.has_peaks,
      ) h.has_records
