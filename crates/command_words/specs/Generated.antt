-- The text that `--generate` makes: docs/PROFILE.md, "Words of the command".
use Rattle.std.specs.Prelude.{ℕ, ◌+◌, ◌*◌, ◌%◌, ◌==◌, List, [], ◌∷◌, codes, decimal, map, if◌then◌else◌}
use Rattle.std.specs.List.{concat, range_with_len}

-- the number in the piece i
abbrev pub value_of : (seed i : ℕ) → ℕ
value_of seed i = (seed + 37 * i) % 1000

-- the four kinds of pieces, by the digits of a piece's place and of its number
abbrev pub function_parts : (place value : List ℕ) → List (List ℕ)
function_parts place value =
    codes "static int f" ∷ place ∷ codes "(int a,int b){return a+b*" ∷ value ∷ codes ";}\n" ∷ []

abbrev pub branch_parts : (place value : List ℕ) → List (List ℕ)
branch_parts place value =
    codes "#ifdef C" ∷ place ∷ codes "\nint v" ∷ place ∷ codes "=" ∷ value ∷ codes ";\n#else\nlong v" ∷ place
    ∷ codes "=" ∷ value ∷ codes ";\n#endif\n" ∷ []

abbrev pub call_parts : (place value : List ℕ) → List (List ℕ)
call_parts place value =
    codes "void g" ∷ place ∷ codes "(void){call(a,b," ∷ value
    ∷ codes ",first_argument_of_call,second_argument_of_call,third_argument_of_call);}\n" ∷ []

abbrev pub macro_parts : (place value : List ℕ) → List (List ℕ)
macro_parts place value = codes "#define M" ∷ place ∷ codes "(x) ((x)+" ∷ value ∷ codes ")\n" ∷ []

-- the piece of a kind: the remainder of its place by 4
abbrev pub parts_of : (kind : ℕ) (place value : List ℕ) → List (List ℕ)
parts_of kind place value =
    if kind == 0 then function_parts place value
    else (if kind == 1 then branch_parts place value
    else (if kind == 2 then call_parts place value else macro_parts place value))

-- the piece i
unfoldable pub piece : (seed i : ℕ) → List ℕ
piece seed i = concat (parts_of (i % 4) (decimal i) (decimal (value_of seed i)))

-- the pieces from 0 to count less 1, joined in order
unfoldable pub generated : (seed count : ℕ) → List ℕ
generated seed count = concat (map (piece seed) (range_with_len 0 count))
