-- Records that are written: how long they are, and how the records of a code grow. Assumes nothing.
use Rattle.integers.proofs.Prelude.{◌≡◌, refl, sym, List, [], ◌∷◌, ◌++◌, append_assoc, append-nil, ℕ, suc, ◌*◌, ◌<◌, arith, length, get_or, take, take-suc}
use Rattle.model.specs.Records.{two, bytes_of, record_of, check_records}
use Rattle.model.proofs.RecordClaims.{length_record}

pub length_bytes : (c : List ℕ) → length (bytes_of c) ≡ 2 * length c
unfolding record_of
length_bytes c = omega (arith, length_record c)

bytes_append : (c d : List ℕ) → bytes_of (c ++ d) ≡ bytes_of c ++ bytes_of d
unfolding bytes_of
bytes_append [] d = refl
bytes_append (i ∷ c) d = rw (bytes_append c d) (sym (append_assoc (two i) (bytes_of c) (bytes_of d)))

-- one index more
pub bytes_next : (c : List ℕ) (i : ℕ) → i < length c → bytes_of (take (suc i) c) ≡ bytes_of (take i c) ++ two (get_or c i 0)
unfolding bytes_of
bytes_next c i h = rw (take-suc c i 0 h, bytes_append (take i c) (get_or c i 0 ∷ []))

-- one check more
pub checks_next : (cs : List (List ℕ)) (c : List ℕ) → check_records (cs ++ (c ∷ [])) ≡ check_records cs ++ record_of c
unfolding check_records
checks_next [] c = append-nil (record_of c)
checks_next (d ∷ cs) c = rw (checks_next cs c) (sym (append_assoc (record_of d) (check_records cs) (record_of c)))
