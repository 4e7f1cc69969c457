-- The parts of a url.
--
-- A scheme is a letter and then letters, digits, `+`, `.` and `-`; where `://` follows it, the authority goes on to the first
-- `/`, and the rest is the path. Else, where the first `:` has some byte before it and no `/`, the text is `[user@]host:path`
-- over ssh. Any other text is a path on this machine.
--
-- The user part of an authority ends at its last `@`, and its first `:` parts the user from the password. A host that begins
-- with `[` goes on to the first `]`, or to the end where there is none. The port follows the last `:` behind the host, and
-- what stands between a `]` and that `:` is passed over.
use Rattle.std.specs.Prelude.{ℕ, ◌+◌, ◌-◌, ◌*◌, List, [], ◌∷◌, codes, bytes_eq, Bool, false, nat_eq, nat_le, nat_lt, ◌==◌, ◌&&◌, ◌||◌, drop, take, length, Option, Some, None, option_map, Result, Ok, Err, if◌then◌else◌}
use Rattle.std.specs.List.{list_all, starts_with}
use Rattle.git_config_lite.specs.Texts.{is_ascii_letter, is_decimal_digit, first_byte_passes, begins_with_byte, length_of_leading_run}
use Rattle.gitbase_core.specs.Path.{is_empty}
use Rattle.submodule.specs.Texts.{contains_byte, offset_of_first_occurrence, text_before_first_occurrence, text_from_first_occurrence, text_after_last_occurrence, text_before_last_occurrence}
use Rattle.submodule.specs.declared.url.Url.{Url}
use Rattle.submodule.specs.declared.url.UrlError.{UrlError}
use Rattle.submodule.specs.declared.url.UrlError.TheVariants as errors

-- ---- the user and the password

-- what stands before the last `@`, if there is one
abbrev pub login_of_authority : List ℕ → Option (List ℕ)
login_of_authority authority = if contains_byte 64 authority then Some (text_before_last_occurrence 64 authority) else None

-- what stands behind the first such byte, if there is one
abbrev pub text_after_first_occurrence : ℕ → List ℕ → Option (List ℕ)
text_after_first_occurrence byte text = if contains_byte byte text then Some (drop 1 (text_from_first_occurrence byte text)) else None

-- the login up to its first `:`; it may be empty, and is none only where there is no login
abbrev pub user_of_login : Option (List ℕ) → Option (List ℕ)
user_of_login None = None
user_of_login (Some login) = Some (text_before_first_occurrence 58 login)

-- what is behind the first `:` of the login; it may be empty, and is none where there is no `:`
abbrev pub password_of_login : Option (List ℕ) → Option (List ℕ)
password_of_login None = None
password_of_login (Some login) = text_after_first_occurrence 58 login

-- ---- the host and the port

-- a host, and the text of its port; no port is the empty text
pub record HostAndPortText : Type 0 where
  pub host : List ℕ
  pub port : List ℕ

-- a host, then the text of its port
abbrev pub host_and_port_text : List ℕ → List ℕ → HostAndPortText
host_and_port_text host port = record { host = host; port = port }

-- the port behind a host in brackets
abbrev pub port_text_after_bracket : List ℕ → List ℕ
port_text_after_bracket rest = if contains_byte 58 rest then text_after_last_occurrence 58 rest else []

-- a text up to its first `]`, and what is behind that
abbrev pub split_after_closing_bracket : List ℕ → Option (List ℕ × List ℕ)
split_after_closing_bracket part = if nat_lt (offset_of_first_occurrence 93 part) (length part) then Some (take (offset_of_first_occurrence 93 part + 1) part, drop (offset_of_first_occurrence 93 part + 1) part) else None

-- a host in brackets
abbrev pub host_and_port_of_bracket_split : List ℕ → Option (List ℕ × List ℕ) → HostAndPortText
host_and_port_of_bracket_split part None = host_and_port_text part []
host_and_port_of_bracket_split part (Some split) = host_and_port_text split.0 (port_text_after_bracket split.1)

-- a part that begins with `[`: the host ends at the first `]`; without one all of it is the host, and there is no port
abbrev pub host_and_port_with_brackets : List ℕ → HostAndPortText
host_and_port_with_brackets part = host_and_port_of_bracket_split part (split_after_closing_bracket part)

-- the last `:` parts the host from the port; without one all of it is the host
abbrev pub host_and_port_without_brackets : List ℕ → HostAndPortText
host_and_port_without_brackets part = if contains_byte 58 part then host_and_port_text (text_before_last_occurrence 58 part) (text_after_last_occurrence 58 part) else host_and_port_text part []

-- the host and the port of an authority behind its user; brackets keep the `:` of an IPv6 address in the host
abbrev pub split_host_and_port : List ℕ → HostAndPortText
split_host_and_port part = if begins_with_byte 91 part then host_and_port_with_brackets part else host_and_port_without_brackets part

-- the number that some decimal digits write
abbrev pub decimal_number_after : ℕ → List ℕ → ℕ
decimal_number_after n [] = n
decimal_number_after n (d ∷ digits) = decimal_number_after (n * 10 + (d - 48)) digits

-- the number that decimal digits write, zeros at the start allowed; 0 where there are none
abbrev pub decimal_number_of_digits : List ℕ → ℕ
decimal_number_of_digits digits = decimal_number_after 0 digits

-- decimal digits alone, for a number up to 65535; the empty text passes too
abbrev pub is_port_text : List ℕ → Bool
is_port_text text = list_all is_decimal_digit text && nat_le (decimal_number_of_digits text) 65535

-- the number that a text of digits writes; none where it has another byte or is above 65535, 0 where it is empty
abbrev pub port_number_if_valid : List ℕ → Option ℕ
port_number_if_valid text = if is_port_text text then Some (decimal_number_of_digits text) else None

-- a port that was read, or the refusal of its text
abbrev pub port_or_port_error : Option ℕ → Result (Option ℕ) UrlError
port_or_port_error None = Err errors.Port
port_or_port_error (Some port) = Ok (Some port)

-- an empty port is none, and any other is a number up to 65535
abbrev pub parse_port : List ℕ → Result (Option ℕ) UrlError
parse_port text = if is_empty text then Ok None else port_or_port_error (port_number_if_valid text)

-- ---- the whole

-- the schemes that need a host
abbrev pub scheme_needs_host : List ℕ → Bool
scheme_needs_host scheme =
    bytes_eq scheme (codes "http") || (bytes_eq scheme (codes "https") || (bytes_eq scheme (codes "ssh") || bytes_eq scheme (codes "git")))

-- the host of a url: an empty one is none
abbrev pub host_unless_empty : List ℕ → Option (List ℕ)
host_unless_empty host = if is_empty host then None else Some host

-- a url of these parts, an empty host left out; where the text of the port was refused, that refusal
abbrev pub url_with_port_or_error : List ℕ → Option (List ℕ) → List ℕ → List ℕ → Result (Option ℕ) UrlError → Result Url UrlError
url_with_port_or_error scheme login host path (Err e) = Err e
url_with_port_or_error scheme login host path (Ok port) =
    Ok (record { scheme = scheme; user = user_of_login login; password = password_of_login login; host = host_unless_empty host; port = port; path = path })

-- a host is empty that may not be
abbrev pub lacks_required_host : List ℕ → List ℕ → Bool
lacks_required_host scheme [] = scheme_needs_host scheme
lacks_required_host scheme (b ∷ host) = false

-- an empty host is refused before a wrong port
abbrev pub url_of_scheme_login_host_and_path : List ℕ → Option (List ℕ) → HostAndPortText → List ℕ → Result Url UrlError
url_of_scheme_login_host_and_path scheme login place path =
    if lacks_required_host scheme place.host then Err errors.EmptyHost
    else url_with_port_or_error scheme login place.host path (parse_port place.port)

-- a url by its scheme and what is behind `://`
abbrev pub parse_url_after_scheme : List ℕ → List ℕ → Result Url UrlError
parse_url_after_scheme scheme rest = url_of_scheme_login_host_and_path scheme (login_of_authority (text_before_first_occurrence 47 rest)) (split_host_and_port (text_after_last_occurrence 64 (text_before_first_occurrence 47 rest))) (text_from_first_occurrence 47 rest)

-- `[user@]host` and a path, over ssh
abbrev pub ssh_url_of_authority_and_path : List ℕ → List ℕ → Result Url UrlError
ssh_url_of_authority_and_path authority path = url_of_scheme_login_host_and_path (codes "ssh") (login_of_authority authority) (host_and_port_text (text_after_last_occurrence 64 authority) []) path

-- a path on this machine, as a url of the scheme `file`: all of the text is its path
abbrev pub local : List ℕ → Url
local path = record { scheme = codes "file"; user = None; password = None; host = None; port = None; path = path }

-- a byte that may stand in a scheme; the first one must be a letter besides
abbrev pub is_scheme_byte : ℕ → Bool
is_scheme_byte b = is_ascii_letter b || (is_decimal_digit b || (b == 43 || (b == 46 || b == 45)))

-- how many bytes at the start may stand in a scheme, whether or not `://` follows
abbrev pub length_of_leading_scheme : List ℕ → ℕ
length_of_leading_scheme text = length_of_leading_run is_scheme_byte text

-- what is behind `://` at the start
abbrev pub text_after_scheme_mark : List ℕ → Option (List ℕ)
text_after_scheme_mark after = if starts_with nat_eq after (codes "://") then Some (drop 3 after) else None

-- a scheme, and what is behind its `://`
abbrev pub split_scheme_and_rest : List ℕ → Option (List ℕ × List ℕ)
split_scheme_and_rest text =
    if first_byte_passes is_ascii_letter text then option_map (λ rest. (take (length_of_leading_scheme text) text, rest)) (text_after_scheme_mark (drop (length_of_leading_scheme text) text))
    else None

-- what stands before and behind the first `:`, where that has some byte before it and no slash
abbrev pub split_ssh_authority_and_path : List ℕ → Option (List ℕ × List ℕ)
split_ssh_authority_and_path text =
    if nat_lt 0 (offset_of_first_occurrence 58 text) && nat_lt (offset_of_first_occurrence 58 text) (offset_of_first_occurrence 47 text) then Some (text_before_first_occurrence 58 text, drop 1 (text_from_first_occurrence 58 text))
    else None

-- `[user@]host:path` over ssh where the text splits so, else all of it as a path on this machine
abbrev pub url_without_scheme : List ℕ → Option (List ℕ × List ℕ) → Result Url UrlError
url_without_scheme text None = Ok (local text)
url_without_scheme text (Some split) = ssh_url_of_authority_and_path split.0 split.1

-- by what stands before and behind `://` where the text splits so, else as one without a scheme
abbrev pub url_with_or_without_scheme : List ℕ → Option (List ℕ × List ℕ) → Result Url UrlError
url_with_or_without_scheme text None = url_without_scheme text (split_ssh_authority_and_path text)
url_with_or_without_scheme text (Some split) = parse_url_after_scheme split.0 split.1

-- the url that a text writes in one of the three forms; refused only for an empty host or a wrong port
abbrev pub parse_url : List ℕ → Result Url UrlError
parse_url text = url_with_or_without_scheme text (split_scheme_and_rest text)
