-- Whether a request comes from here, or from a page of another site, by what a browser says of it (Fetch Metadata Request Headers; RFC 6454, section 7).
use Rattle.std.specs.Prelude.{ℕ, Bool, true, false, ◌&&◌, ◌||◌, List, length, drop, nat_eq, codes, bytes_eq}
use Rattle.std.specs.List.{starts_with}
use Rattle.lrs_web_requests.specs.BodyLengths.{Field, values_named}
use Rattle.lrs_web_requests.specs.Values.{Summary, nothing, one, several, with_values}

-- what the fields of a name say: nothing, one value, or several
abbrev pub told : List ℕ → List Field → Summary
told name fields = with_values nothing (values_named name fields)

-- this machine by its address or its name, at any port
abbrev pub is_local : List ℕ → Bool
is_local host =
    bytes_eq host (codes "127.0.0.1") || starts_with nat_eq host (codes "127.0.0.1:")
    || bytes_eq host (codes "localhost") || starts_with nat_eq host (codes "localhost:")

-- who is asked, where that is said, is this machine: no name of elsewhere that leads here
abbrev pub is_own_host : Summary → Bool
is_own_host nothing = true
is_own_host (one host) = is_local host
is_own_host several = false

-- a browser says of no other site that it asks: by a page of this origin, or by no page
abbrev pub is_own_site : Summary → Bool
is_own_site nothing = true
is_own_site (one site) = bytes_eq site (codes "same-origin") || bytes_eq site (codes "none")
is_own_site several = false

abbrev pub scheme : List ℕ
scheme = codes "http://"

-- the origin of what this host serves: the scheme, and behind it the host
abbrev pub is_origin_of : List ℕ → List ℕ → Bool
is_origin_of host origin = starts_with nat_eq origin scheme && bytes_eq (drop (length scheme) origin) host

-- the page that asks, where one is named, is served by who is asked
abbrev pub is_own_origin : Summary → Summary → Bool
is_own_origin host nothing = true
is_own_origin (one host) (one origin) = is_origin_of host origin
is_own_origin host origin = false

-- a request with these fields comes from no page, as of curl, or from a page of this service
abbrev pub is_own : List Field → Bool
is_own fields =
    is_own_host (told (codes "host") fields) && (is_own_site (told (codes "sec-fetch-site") fields)
    && is_own_origin (told (codes "host") fields) (told (codes "origin") fields))
