-- The structs as complex numbers, and back. Definitions only.
use Rattle.complex.specs.declared.Complex32.{Complex32}
use Rattle.complex.specs.declared.Complex64.{Complex64}
use Rattle.complex.specs.declared.Single.{Single}
use Rattle.complex.specs.Complex.{Complex, narrowed_parts, word_of}

abbrev pub view32 : Complex32 → Complex
view32 z = record { re = z.re; im = z.im }

abbrev pub make32 : Complex → Complex32
make32 z = record { re = z.re; im = z.im }

abbrev pub view64 : Complex64 → Complex
view64 z = record { re = z.re; im = z.im }

abbrev pub make64 : Complex → Complex64
make64 z = record { re = z.re; im = z.im }

-- what `rounded` gives
abbrev pub single_of : Complex → Single
single_of z = record { value = make64 (narrowed_parts z); word = word_of (narrowed_parts z) }
