mod DescribedParams
mod Places
mod Others
mod StoredEntries
mod FirstFaults
