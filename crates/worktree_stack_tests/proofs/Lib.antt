mod AnyState
