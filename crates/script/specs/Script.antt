-- A history's calls as bytes (document 01, "The ledger": "each call is a set or a withdraw"). The layout is this
-- project's own: kind byte, 0 a set and 1 a withdraw; 4-byte score; 2-byte length; as many bytes of the name. Any
-- score, length and name bytes are allowed.
use Rattle.std.specs.Prelude.{◌+◌, suc, zero, ℕ, Bool, ◌&&◌, false, true, List, [], ◌++◌, ◌∷◌, eqb, leb, ltb, drop, get_or, length, take}
use Rattle.std.proofs.Math.Option.{Option, none, some}
use Rattle.octets.specs.Lists.{if◌then◌otherwise◌}
use Rattle.octets.specs.Octets.{be, number_at}
use Rattle.answer.specs.Answers.{Answer, WrittenCounts, counts, none_written, number}
use Rattle.ledger.specs.Ledger.{Edit, set_name, withdraw_name}

-- the call at the front of bytes: its length, its name, the call itself
abbrev pub call_length : List ℕ → ℕ
call_length bs = 7 + number_at 2 bs 5

abbrev pub call_name : List ℕ → List ℕ
call_name bs = take (number_at 2 bs 5) (drop 7 bs)

unfoldable pub call_at : List ℕ → Edit
call_at bs = if eqb (get_or bs 0 0) 0 then set_name (call_name bs) (number_at 4 bs 1) otherwise withdraw_name (call_name bs)

-- whether one stands there
unfoldable pub is_call : List ℕ → Bool
is_call bs = leb 7 (length bs) && (ltb (get_or bs 0 0) 2 && leb (call_length bs) (length bs))

-- one call more, in front
abbrev pub with_call : Edit → Option (List Edit) → Option (List Edit)
with_call c none = none
with_call c (some cs) = some (c ∷ cs)

-- the calls of bytes, one behind the other to the end; none where the bytes are not laid out so
abbrev pub calls_from : ℕ → List ℕ → Option (List Edit)
calls_from zero [] = some []
calls_from zero (b ∷ bs) = none
calls_from (suc n) [] = some []
calls_from (suc n) (b ∷ bs) = if is_call (b
    ∷ bs) then with_call (call_at (b ∷ bs)) (calls_from n (drop (call_length (b ∷ bs)) (b ∷ bs))) otherwise none

-- of a whole script; its length is fuel enough, as every call takes a byte at least
unfoldable pub calls : List ℕ → Option (List Edit)
calls script = calls_from (length script) script

-- whether a script is laid out so, and its calls
abbrev pub is_laid : Option (List Edit) → Bool
is_laid none = false
is_laid (some cs) = true

abbrev pub calls_of : Option (List Edit) → List Edit
calls_of none = []
calls_of (some cs) = cs

-- an answer in 7 bytes: its number in 1, the entries in 2, the bytes in 4
unfoldable pub answer_bytes : Answer WrittenCounts → List ℕ
answer_bytes a = number a ∷ be 2 (counts none_written a).entries ++ be 4 (counts none_written a).bytes
