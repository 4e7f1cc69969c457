-- Which refusal of a part stands for a fault.
use Rattle.std.proofs.Common.{◌≡◌, refl}
use Rattle.git_places.specs.declared.error.PlacesError.{PlacesError}
use Rattle.git_places.specs.declared.error.PlacesError.TheVariants as places
use Rattle.git_setup.specs.Refusals.{git_refusal_of_places_error}
use Rattle.git_setup.specs.declared.error.GitRefusal.TheVariants as errors

pub is_places_fault : (e : PlacesError) → git_refusal_of_places_error e ≡ errors.Fault → e ≡ places.Fault
is_places_fault places.NoRepository is = absurd cc
is_places_fault (places.Border path) is = absurd cc
is_places_fault (places.NoDirectory path) is = absurd cc
is_places_fault (places.Bare path) is = absurd cc
is_places_fault (places.GitFileForm path) is = absurd cc
is_places_fault (places.GitFileTarget path) is = absurd cc
is_places_fault (places.OddHead path) is = absurd cc
is_places_fault (places.CommonDir path) is = absurd cc
is_places_fault (places.Version path value) is = absurd cc
is_places_fault (places.Extension path key) is = absurd cc
is_places_fault (places.Sha256 path) is = absurd cc
is_places_fault (places.Value path key) is = absurd cc
is_places_fault (places.Config path line) is = absurd cc
is_places_fault (places.NoWorkTree path) is = absurd cc
is_places_fault places.Fault is = refl
is_places_fault places.OutOfMemory is = absurd cc
