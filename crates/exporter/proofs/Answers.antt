-- The answers of export and of its size, from the judgement and the room. Assumes nothing.
use Rattle.integers.proofs.Prelude.{◌≡◌, ap, ap₂, List, ℕ, zero, suc, ◌≤◌, ◌<◌, arith, lt-ltb, le-ltb, length}
use Rattle.model.specs.Records.{code_of, judge}
use Rattle.model.specs.RecordClaims.{Bytes}
use Rattle.model.specs.Alist.{alist_of, Writing, exporter, Size, export_size}
use Rattle.model.specs.AlistPromises.{ExportCall, SizeCall}
use Rattle.model.proofs.AlistPromises.{export_call, size_call}
use Rattle.exporter.specs.Lines.{Fitted}

-- ---- the answers
abbrev size_answer : ℕ → ℕ → Size
size_answer number bytes = record { number = number; bytes = bytes }

abbrev answer : ℕ → ℕ → List ℕ → Writing
answer number bytes list = record { number = number; bytes = bytes; list = list }

module _ (b : List ℕ) where
  pub size_refused : (c : ℕ) → judge b ≡ c → 0 < c → SizeCall b (size_answer c 0)
  unfolding export_size
  size_refused zero e h = absurd (omega arith)
  size_refused (suc c) e h = size_call b (size_answer (suc c) 0) (rw e)

  pub size_told : (n : ℕ) → judge b ≡ 0 → n ≡ length (alist_of (code_of b)) → SizeCall b (size_answer 0 n)
  unfolding export_size
  size_told n j e = size_call b (size_answer 0 n) (rw (j, e))

  module _ (bytes : Bytes b) (old : List ℕ) where
    pub export_refused : (c : ℕ) → judge b ≡ c → 0 < c → ExportCall b old (answer c 0 old)
    unfolding exporter
    export_refused zero e h = absurd (omega arith)
    export_refused (suc c) e h = export_call b old (answer (suc c) 0 old) bytes (rw e)

    -- the text of an accepted code has n bytes, and l is the list after it was written where it fits
    module _ (judged : judge b ≡ 0) (l : List ℕ) (n : ℕ) (f : Fitted (alist_of (code_of b)) old l n) where
      pub export_short : length old < n → ExportCall b old (answer 10 0 l)
      unfolding exporter
      export_short h =
          let short : length old < length (alist_of (code_of b)) = omega (arith, f.bytes) in
          export_call b old (answer 10 0 l) bytes (rw (judged, lt-ltb (length old) (length (alist_of (code_of b))) short) (ap (answer 10 0) (f.none h)))

      pub export_done : n ≤ length old → ExportCall b old (answer 0 n l)
      unfolding exporter
      export_done h =
          let room : length (alist_of (code_of b)) ≤ length old = omega (arith, f.bytes) in
          export_call b old (answer 0 n l) bytes
          (rw (judged, le-ltb (length old) (length (alist_of (code_of b))) room) (ap₂ (answer 0) f.bytes (f.whole h)))
