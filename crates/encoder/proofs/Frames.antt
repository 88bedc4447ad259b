-- Frames one behind the other: one more. Assumes nothing.
use Rattle.integers.proofs.Prelude.{◌≡◌, sym, ap, ◌∙◌, List, ℕ, ◌+◌, ◌*◌, ◌≤◌, add-one, length, take, drop}
use borrow.Rule.Slice.PartMut.{put_mid}
use Rattle.lists.specs.Tabulated.{written, part}
use Rattle.lists.proofs.Parts.{written_part}
use Rattle.model.specs.Encoding.{Column, others, encoded_in, frames_in}
use Rattle.model.proofs.Encoding.{length_encoded, length_frames}

-- ---- one frame more, where those before stand
module _ (cs : List Column) (n : ℕ) (size : length cs ≡ n) (f : ℕ) (ms old words : List ℕ) (so_far : words ≡ written (frames_in cs f ms) old) (room : f * n ≤ length old) where
  long : length (frames_in cs f ms) ≡ f * n
  long = length_frames cs f ms ∙ ap (λ (m : ℕ). f * m) size

  -- w was written, of the columns ds, the t entries of the message and in e entries
  pub next_frame : (w : List ℕ) (ds : List Column) (s t e : ℕ) → ds ≡ cs → s ≡ others cs → t ≡ s → e ≡ n → w ≡ encoded_in ds (take t (drop (f * s) ms))
      → put_mid (f * n) e words w ≡ written (frames_in cs (f + 1) ms) old
  unfolding frames_in
  next_frame w ds s t e same all message ends told =
      let is : w ≡ encoded_in cs (part (others cs) f ms) = told ∙ rw (same, message, all) in
      let whole : e ≡ length w = sym (ap length is ∙ length_encoded cs (part (others cs) f ms) ∙ size ∙ sym ends) in
      rw (whole, is, ← long, add-one f) (written_part (frames_in cs f ms) (encoded_in cs (part (others cs) f ms)) old words so_far)
