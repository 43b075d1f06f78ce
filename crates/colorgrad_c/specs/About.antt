-- What the library says of itself: its version, and what each refusal and each verdict means, in one line of plain words.
use Rattle.std.specs.Prelude.{ℕ, ◌+◌, ◌*◌, List, [], ◌∷◌, get_or}
use Prim.Native.Char.{code}
use Prim.Native.String.{String, [] as empty, ◌∷◌ as ◌then◌}

-- 0.2.0
abbrev pub version : ℕ
version = 1000 * (1000 * 0 + 2) + 0

-- the bytes of a text
unfoldable pub bytes_in : String → List ℕ
bytes_in empty = []
bytes_in (c then s) = code c ∷ bytes_in s

-- the refusals from 0 on
abbrev pub refusal_texts : List String
refusal_texts =
    "not refused"
    ∷ "too few or too many stops or segments, an unknown kind, or lengths that disagree"
    ∷ "a position or a channel is not a finite number"
    ∷ "a stop's position is below that of the stop before it"
    ∷ "the domain reaches beyond 1e38"
    ∷ "the record is not 4,608 numbers, 36 counts of 1 to 128 and 3 words, or a place lies outside it"
    ∷ "the edit names no stop that it can be made of, has a number that is not finite, or the ramp is of a kind that cannot be edited so"
    ∷ "the output has no room for all of it"
    ∷ "a stop of the list would not be finite"
    ∷ "a stop of the list would lie below the stop before it"
    ∷ "the GIMP text is too long, or not ASCII where it must be, or its name is not UTF-8"
    ∷ "line 1, 2 or 3 of the GIMP text is not as it must be"
    ∷ "a segment of the GIMP text is not valid"
    ∷ "the GIMP text has fewer segments than it counts"
    ∷ "the GIMP text has no segment"
    ∷ "the GIMP text counts more segments than there is room for"
    ∷ "a segment is curved, which this call does not take, or curved or sinusoidal with its middle outside its ends"
    ∷ "no sharp ramp can be built of so many colours on this domain"
    ∷ "the segments of the GIMP text do not run from 0 to 1, each joined to the next"
    ∷ "a number of the list cannot be written, or it does not run from 0 to 1"
    ∷ "the record was sampled with another threshold or on another domain"
    ∷ "two stops that follow each other do not show what lies between them: colours beyond 16,384"
    ∷ "the list is not 2 to 4,609 stops, finite and never falling, from where the ramp starts to where it ends"
    ∷ "there are no depths, or one is not finite, outside the domain of the ramp, or below the depth before it"
    ∷ "the step is not finite or is below 0"
    ∷ []

-- the verdicts from 0 on
abbrev pub verdict_texts : List String
verdict_texts =
    "the ramp is refused, and the list was not looked at"
    ∷ "the list shows the ramp within the threshold"
    ∷ "the list is not 2 to 4,609 stops of a position and four channels each"
    ∷ "a stop of the list is not finite, or its position is below that of the stop before it"
    ∷ "the list does not start where the ramp does"
    ∷ "the list does not end where the ramp does"
    ∷ "the list's colour is too far from the ramp's"
    ∷ []

unfoldable pub message_of : ℕ → List ℕ
message_of refusal = bytes_in (get_or refusal_texts refusal "no such refusal")

unfoldable pub verdict_message_of : ℕ → List ℕ
verdict_message_of verdict = bytes_in (get_or verdict_texts verdict "no such verdict")
