mod PastKeys
