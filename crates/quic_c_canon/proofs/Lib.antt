mod PaddingBytes
mod LenWalk
mod StoreWalk
mod ByRules
