-- The same words of an image whose block size is given, or else found; an image in which none is found is refused.
use Rattle.std.specs.Prelude.{ℕ, Bool, false, Option, Some, None, List}
use Rattle.udf_volume_model.specs.Size.{size_of}
use Rattle.udf_mended_image.specs.Accepted.{is_accepted, is_unbroken, mend}

abbrev pub accepted_by : Option ℕ → List ℕ → Bool
accepted_by None image = false
accepted_by (Some size) image = is_accepted size image

abbrev pub is_accepted_as : Option ℕ → List ℕ → Bool
is_accepted_as given image = accepted_by (size_of given image) image

abbrev pub unbroken_by : Option ℕ → List ℕ → Bool
unbroken_by None image = false
unbroken_by (Some size) image = is_unbroken size image

abbrev pub is_unbroken_as : Option ℕ → List ℕ → Bool
is_unbroken_as given image = unbroken_by (size_of given image) image

abbrev pub mend_by : Option ℕ → List ℕ → List ℕ
mend_by None image = image
mend_by (Some size) image = mend size image

abbrev pub mend_as : Option ℕ → List ℕ → List ℕ
mend_as given image = mend_by (size_of given image) image
